use Rattle.std.proofs.Common.{arith, ◌≡◌, ◌<◌, ◌∙◌, sym, ap, get_or, length, ℕ}
use Rattle.std.proofs.lemmas.List.{get_or_default}
use Rattle.ban_list.specs.Bans.{Bans, newer}
use Rattle.ban_list.proofs.CountLemmas.{within_counts}
use Rattle.ban_list.proofs.list.BanList.placed_at.Goals as goal

pub index-requires : goal.index-requires
index-requires c =
    let at : c.count_newer.result ≡ newer c.args.place c.self.inside.lines.items = c.count_newer.ensures ∙ ap (λ (bans : Bans). newer c.args.place bans.lines) (sym c.self.view_is) in
    let within : c.count_newer.result < length c.self.inside.placed.items =
    within_counts c.args.place c.self.inside.lines.items c.self.inside.placed.items c.self.inside.objects c.count_newer.result c.self.invariant.3 at in
    omega (arith, within, c.self.inside.placed.ok)

pub returns : goal.returns
returns c =
    let at : c.count_newer.result ≡ newer c.args.place c.self.inside.lines.items = c.count_newer.ensures ∙ ap (λ (bans : Bans). newer c.args.place bans.lines) (sym c.self.view_is) in
    let within : c.count_newer.result < length c.self.inside.placed.items =
    within_counts c.args.place c.self.inside.lines.items c.self.inside.placed.items c.self.inside.objects c.count_newer.result c.self.invariant.3 at in
    let read = c.index.ensures ∙ get_or_default c.self.inside.placed.items c.count_newer.result c.index.result.now 0 within ∙ ap (λ (n : ℕ). get_or c.self.inside.placed.items n 0) at in
    rw (← c.self.view_is) read
