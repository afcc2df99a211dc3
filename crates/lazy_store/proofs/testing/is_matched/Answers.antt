use Rattle.std.proofs.Common.{◌≡◌, ◌+◌, ℕ, true, take, ap, sym, ◌∙◌, arith}
use Rattle.std.specs.List.{list_any}
use Rattle.std.specs.Option.{option_copied}
use Rattle.ban_list.specs.Bans.{newer}
use Rattle.lazy_store.specs.Testing.{is_hit}
use Rattle.lazy_store.proofs.Lines.{any_longer, any_one_more, matched_is}
use Rattle.lazy_store.proofs.testing.is_matched.Goals as goal

pub returns-then-branch : goal.returns-then-branch
returns-then-branch c =
    let hit = is_hit c.args.object.now (option_copied c.args.request) in
    let lines = c.args.bans.now.lines in
    let here : list_any hit (take (c.loop-at.at + 1) lines) ≡ true =
    any_one_more hit lines c.loop-at.at c.loop-at.invariant ∙ sym c.in_ok-hits_at.ensures ∙ c.if-branch.true in
    sym (matched_is c.requires.0 c.args.number lines c.args.object.now (option_copied c.args.request) c.requires.1
    ∙ any_longer hit lines (c.loop-at.at + 1) (newer c.args.number lines) (omega arith) here)

pub loop-at-preserved : goal.loop-at-preserved
loop-at-preserved c =
    any_one_more (is_hit c.args.object.now (option_copied c.args.request)) c.args.bans.now.lines c.loop-at.at c.loop-at.invariant
    ∙ sym c.in_ok-hits_at.ensures ∙ c.if-branch.false

pub returns : goal.returns
returns c =
    let lines = c.args.bans.now.lines in
    let end : newer c.args.number lines ≡ c.loop-at.at = omega arith in
    sym (matched_is c.requires.0 c.args.number lines c.args.object.now (option_copied c.args.request) c.requires.1
    ∙ ap (λ (n : ℕ). list_any (is_hit c.args.object.now (option_copied c.args.request)) (take n lines)) end ∙ c.loop-at.invariant)
