use Rattle.std.proofs.Common.{arith, ◌≡◌, ◌<◌, ◌∙◌, sym, ap, get_or, length, ℕ}
use Rattle.std.proofs.lemmas.List.{get_or_default}
use Rattle.ban_list.specs.Bans.{Bans, newer}
use Rattle.ban_list.proofs.CountLemmas.{within_counts}
use Rattle.ban_list.proofs.list.BanList.marked_at.Goals as goal

pub index-requires : goal.index-requires
index-requires c =
    let at : c.count_newer.result ≡ newer c.args.mark c.self.inside.lines.items = c.count_newer.ensures ∙ ap (λ (bans : Bans). newer c.args.mark bans.lines) (sym c.self.view_is) in
    let within : c.count_newer.result < length c.self.inside.marked.items =
    within_counts c.args.mark c.self.inside.lines.items c.self.inside.marked.items c.self.inside.objects c.count_newer.result c.self.invariant.4 at in
    omega (arith, within, c.self.inside.marked.ok)

pub returns : goal.returns
returns c =
    let at : c.count_newer.result ≡ newer c.args.mark c.self.inside.lines.items = c.count_newer.ensures ∙ ap (λ (bans : Bans). newer c.args.mark bans.lines) (sym c.self.view_is) in
    let within : c.count_newer.result < length c.self.inside.marked.items =
    within_counts c.args.mark c.self.inside.lines.items c.self.inside.marked.items c.self.inside.objects c.count_newer.result c.self.invariant.4 at in
    let read = c.index.ensures ∙ get_or_default c.self.inside.marked.items c.count_newer.result c.index.result.now 0 within ∙ ap (λ (n : ℕ). get_or c.self.inside.marked.items n 0) at in
    rw (← c.self.view_is) read
