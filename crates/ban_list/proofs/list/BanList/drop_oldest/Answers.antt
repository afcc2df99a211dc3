use Rattle.std.proofs.Common.{arith, ◌≡◌, ◌<◌, ◌-◌, ◌+◌, ◌++◌, ◌∷◌, [], ℕ, List, Option, ◌∙◌, sym, ap, subst, length, take}
use Rattle.std.specs.Option.{option_to_list}
use Rattle.std.specs.VecDeque.{deque_len}
use Rattle.cache_law.specs.declared.ban.BanLine.{BanLine}
use Rattle.ban_list.specs.Bans.{Bans, summed}
use Rattle.ban_list.specs.Kept.{AreFalling, IsIndexOf}
use Rattle.ban_list.proofs.LineLemmas.{falling_first, completed_first}
use Rattle.ban_list.proofs.CountLemmas.{counts_cut}
use Rattle.ban_list.proofs.IssueLemmas.{left_index}
use Rattle.ban_list.proofs.list.BanList.drop_oldest.Goals as goal

pub invariant_of-self : goal.invariant_of-self
invariant_of-self c =
    let lines = c.self.inside.lines.items in
    let left = c.pop_back.new.self.items in
    let line = c.in-Some.line in
    let some : 0 < length lines = subst (λ (bans : Bans). 0 < length bans.lines) (sym c.self.view_is) c.requires in
    let len : deque_len c.self.inside.lines ≡ length lines = omega (arith, c.self.inside.lines.ok) in
    let rest : left ≡ take (length lines - 1) lines = c.pop_back.ensures.rest ∙ ap (λ (n : ℕ). take (n - 1) lines) len in
    let whole : lines ≡ left ++ line ∷ [] = c.pop_back.ensures.items ∙ ap (λ (o : Option BanLine). left ++ option_to_list o) c.in-Some.is in
    let places : c.join_last.new.counts.items ≡ summed (length lines - 1) c.self.inside.placed.items =
    c.join_last.ensures ∙ ap (λ (n : ℕ). summed n c.self.inside.placed.items) (omega (arith, c.self.invariant.3.one_each)) in
    let marks : c.join_last-in-Some.new.counts.items ≡ summed (length lines - 1) c.self.inside.marked.items =
    c.join_last-in-Some.ensures ∙ ap (λ (n : ℕ). summed n c.self.inside.marked.items) (omega (arith, c.self.invariant.4.one_each)) in (
      rw rest (falling_first (c.self.inside.issued + 1) lines (length lines - 1) c.self.invariant.0),
      rw rest (completed_first lines (length lines - 1) c.self.invariant.1),
      left_index left line (c.self.inside.issued + 1) c.self.inside.equals c.forget.new.equals (subst (AreFalling (c.self.inside.issued + 1)) whole c.self.invariant.0)
          (subst (λ (ls : List BanLine). IsIndexOf ls c.self.inside.equals) whole c.self.invariant.2) c.forget.ensures,
      rw (rest, places) (counts_cut lines c.self.inside.placed.items c.self.inside.objects (length lines - 1) c.self.invariant.3 (omega arith)),
      rw (rest, marks) (counts_cut lines c.self.inside.marked.items c.self.inside.objects (length lines - 1) c.self.invariant.4 (omega arith)),
    )
