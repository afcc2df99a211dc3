-- A test of the bans that were issued behind so many, newest first.
use Rattle.std.proofs.Common.{◌≡◌, ℕ, Bool, true, false, List, [], ◌∷◌, ◌+◌, ◌<◌, ◌≤◌, nat_lt, length, drop, get_or, refl, ap, ◌∙◌}
use Rattle.std.specs.List.{list_any}
use Rattle.std.proofs.lemmas.Bool.{le-ltb, lt-ltb}
use Rattle.cache_law.specs.declared.ban.Issued.{Issued}
use Rattle.flat_core.specs.StoredObject.{since}
use Rattle.cache_desk.proofs.Passes.{drop_one, drop_all}

module _ (test : Issued → Bool) (count n : ℕ) (bans : List Issued) where
  next_ban : (ban : Issued) → n < length bans → ban ≡ get_or bans n ban → list_any test (since count (drop n bans)) ≡ list_any test (since count (ban ∷ drop (n + 1) bans))
  next_ban ban below at_ = ap (λ (rest : List Issued). list_any test (since count rest)) (drop_one bans n ban below at_)

  -- one ban more doesn't pass
  pub any_since-more : (ban : Issued) → n < length bans → ban ≡ get_or bans n ban → count < ban.number → test ban ≡ false → list_any test (since count (drop n bans)) ≡ list_any test (since count (drop (n + 1) bans))
  any_since-more ban below at_ later fails = next_ban ban below at_ ∙ rw (lt-ltb count ban.number later, fails) refl

  -- a ban passes
  pub any_since-here : (ban : Issued) → n < length bans → ban ≡ get_or bans n ban → count < ban.number → test ban ≡ true → list_any test (since count (drop n bans)) ≡ true
  any_since-here ban below at_ later passes = next_ban ban below at_ ∙ rw (lt-ltb count ban.number later, passes) refl

  -- no ban is left
  pub any_since-old : (ban : Issued) → n < length bans → ban ≡ get_or bans n ban → ban.number ≤ count → list_any test (since count (drop n bans)) ≡ false
  any_since-old ban below at_ early = next_ban ban below at_ ∙ rw (le-ltb count ban.number early) refl

  pub any_since-end : n ≡ length bans → list_any test (since count (drop n bans)) ≡ false
  any_since-end end_ = ap (λ (rest : List Issued). list_any test (since count rest)) (drop_all bans n end_)
