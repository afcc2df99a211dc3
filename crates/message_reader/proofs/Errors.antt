-- What is told of an error that is passed on.
use Rattle.std.proofs.Common.{◌≡◌, Result, Ok, Err, IsErrAnd, sym, subst}
use Rattle.message_reader.specs.declared.stop.Stop.{Stop}

pub at_err : {T : Type 0} (result : Result T Stop) (stop : Stop) (P : Result T Stop → Type 0) → IsErrAnd result (λ e. e ≡ stop) → P (Err stop) → P result
at_err (Ok x) stop P is p = absurd is
at_err (Err e) stop P is p = subst (λ (s : Stop). P (Err s)) (sym is) p
