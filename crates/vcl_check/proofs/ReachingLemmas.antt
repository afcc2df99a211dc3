-- Rows of what calls lead to, one after another.
use Rattle.std.proofs.Common.{◌≡◌, ℕ, suc, ◌+◌, Bool, List, [], ◌∷◌, ◌++◌, length, subst, arith}
use Rattle.std.specs.Prelude.{◌↔◌}
use Rattle.vcl_symbols.specs.declared.call_graph.Call.{Call}
use Rattle.vcl_symbols.specs.Calls.{Reaches, Marked}
use Rattle.vcl_check.specs.Reaching.{AreReached}

pub reached-push : (calls : List Call) (k : ℕ) (rows : List (List Bool)) (row : List Bool) (n : ℕ) → n ≡ k + length rows
    → AreReached calls k rows → ((v : ℕ) → Marked row v ↔ Reaches calls n v) → AreReached calls k (rows ++ row ∷ [])
reached-push calls k [] row n e h r =
    let P : ℕ → Type 0 = λ m. (v : ℕ) → Marked row v ↔ Reaches calls m v in
    let same : n ≡ k = omega arith in
    (subst P same r, tt)
reached-push calls k (first ∷ rows) row n e h r = (h.0, reached-push calls (suc k) rows row n (omega arith) h.1 r)
