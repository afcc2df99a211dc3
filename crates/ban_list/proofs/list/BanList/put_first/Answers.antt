use Rattle.std.proofs.Common.{arith, refl, ◌≡◌, ◌<◌, ◌≤◌, ◌+◌, ◌∷◌, ℕ, List, ◌∙◌, sym, ap, subst, map}
use Rattle.std.proofs.lemmas.List.{length-map}
use Rattle.cache_law.specs.declared.ban.BanLine.{BanLine}
use Rattle.ban_list.specs.Bans.{Bans, completed_by}
use Rattle.ban_list.specs.Kept.{completed_at}
use Rattle.ban_list.proofs.LineLemmas.{falling_weaker}
use Rattle.ban_list.proofs.CountLemmas.{counts_first}
use Rattle.ban_list.proofs.IssueLemmas.{issued_falling, issued_completed, issued_index, issued_lines}
use Rattle.ban_list.proofs.list.BanList.put_first.Goals as goal

pub complete-requires : goal.complete-requires
complete-requires c =
    let line = c.in_ok-line.line in
    let pushed : c.push_front_reserved.new.self.items ≡ line ∷ c.self.inside.lines.items =
    c.push_front_reserved.ensures.items ∙ ap (λ (ls : List BanLine). line ∷ ls) c.try_reserve.ensures.items in
    let number : line.issued.number ≡ c.args.number = ap (λ (l : BanLine). l.issued.number) c.in_ok-line.ensures in
    let order : c.self.inside.issued < c.args.number = subst (λ (bans : Bans). bans.issued < c.args.number) (sym c.self.view_is) c.requires in
    let above : c.self.inside.issued + 1 ≤ line.issued.number = omega (arith, number, order) in
    let first : line.issued.number < c.args.number + 1 = omega (arith, number) in
    (c.args.number + 1, rw pushed (first, falling_weaker (c.self.inside.issued + 1) line.issued.number c.self.inside.lines.items above c.self.invariant.0))

pub invariant_of-self-2 : goal.invariant_of-self-2
invariant_of-self-2 c =
    let line = c.in_ok-line.line in
    let lines = c.self.inside.lines.items in
    let ban = c.args.ban.now in
    let number : line.issued.number ≡ c.args.number = ap (λ (l : BanLine). l.issued.number) c.in_ok-line.ensures in
    let order : c.self.inside.issued < c.args.number = subst (λ (bans : Bans). bans.issued < c.args.number) (sym c.self.view_is) c.requires in
    let above : c.self.inside.issued + 1 ≤ line.issued.number = omega (arith, number, order) in
    let is : line.issued.ban ≡ ban = ap (λ (l : BanLine). l.issued.ban) c.in_ok-line.ensures in
    let pushed : c.push_front_reserved.new.self.items ≡ line ∷ lines = c.push_front_reserved.ensures.items ∙ ap (λ (ls : List BanLine). line ∷ ls) c.try_reserve.ensures.items in
    let now : c.complete.new.lines.items ≡ line ∷ map (completed_by ban) lines =
    c.complete.ensures ∙ ap (completed_at c.in_ok-earlier.earlier) pushed
    ∙ issued_lines line lines ban (c.self.inside.issued + 1) c.self.inside.equals c.in_ok-earlier.earlier above is c.self.invariant.0 c.self.invariant.1 c.self.invariant.2
    c.in_ok-earlier.ensures.earlier in
    let places : c.push_front_reserved-2.new.self.items ≡ 0 ∷ c.self.inside.placed.items =
    c.push_front_reserved-2.ensures.items ∙ ap (λ (ns : List ℕ). 0 ∷ ns) c.try_reserve-2.ensures.items in
    let marks : c.push_front_reserved-3.new.self.items ≡ 0 ∷ c.self.inside.marked.items =
    c.push_front_reserved-3.ensures.items ∙ ap (λ (ns : List ℕ). 0 ∷ ns) c.try_reserve-3.ensures.items in (
      rw now (issued_falling line lines ban (c.self.inside.issued + 1) c.args.number number (omega (arith, order)) c.self.invariant.0),
      rw now (issued_completed line lines ban is c.self.invariant.1),
      rw now (issued_index line lines ban c.args.number c.self.inside.equals c.put_key.new.equals c.self.invariant.2 (sym number) c.in_ok-earlier.ensures.ok),
      rw (now, places) (counts_first line lines (map (completed_by ban) lines) c.self.inside.placed.items c.self.inside.objects c.self.invariant.3 (length-map lines (completed_by ban))),
      rw (now, marks) (counts_first line lines (map (completed_by ban) lines) c.self.inside.marked.items c.self.inside.objects c.self.invariant.4 (length-map lines (completed_by ban))),
    )

pub returns-clause-ok : goal.returns-clause-ok
returns-clause-ok c =
    let line = c.in_ok-line.line in
    let lines = c.self.inside.lines.items in
    let ban = c.args.ban.now in
    let number : line.issued.number ≡ c.args.number = ap (λ (l : BanLine). l.issued.number) c.in_ok-line.ensures in
    let order : c.self.inside.issued < c.args.number = subst (λ (bans : Bans). bans.issued < c.args.number) (sym c.self.view_is) c.requires in
    let above : c.self.inside.issued + 1 ≤ line.issued.number = omega (arith, number, order) in
    let is : line.issued.ban ≡ ban = ap (λ (l : BanLine). l.issued.ban) c.in_ok-line.ensures in
    let pushed : c.push_front_reserved.new.self.items ≡ line ∷ lines = c.push_front_reserved.ensures.items ∙ ap (λ (ls : List BanLine). line ∷ ls) c.try_reserve.ensures.items in
    let now : c.complete.new.lines.items ≡ line ∷ map (completed_by ban) lines =
    c.complete.ensures ∙ ap (completed_at c.in_ok-earlier.earlier) pushed
    ∙ issued_lines line lines ban (c.self.inside.issued + 1) c.self.inside.equals c.in_ok-earlier.earlier above is c.self.invariant.0 c.self.invariant.1 c.self.invariant.2
    c.in_ok-earlier.ensures.earlier in
    let shown = now ∙ ap (λ (l : BanLine). l ∷ map (completed_by ban) lines) c.in_ok-line.ensures in
    let places : c.push_front_reserved-2.new.self.items ≡ 0 ∷ c.self.inside.placed.items =
    c.push_front_reserved-2.ensures.items ∙ ap (λ (ns : List ℕ). 0 ∷ ns) c.try_reserve-2.ensures.items in
    let marks : c.push_front_reserved-3.new.self.items ≡ 0 ∷ c.self.inside.marked.items =
    c.push_front_reserved-3.ensures.items ∙ ap (λ (ns : List ℕ). 0 ∷ ns) c.try_reserve-3.ensures.items in
    rw (← c.self.view_is, shown, places, marks) refl
