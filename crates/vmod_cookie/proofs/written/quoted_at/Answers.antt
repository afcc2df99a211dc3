use Rattle.std.proofs.Common.{◌≡◌, ℕ, ◌<◌, ◌≤◌, List, drop, length}
use Rattle.std.specs.Prelude.{Option, Some, None, Result, Ok, Err, IfOk, MatchOption}
use Rattle.units.specs.Quoted.{IsQuotedAt}
use Rattle.vmod_host.specs.JarText.{quoted_in}
use Rattle.vmod_cookie.proofs.Reading.{found_read, missing_read}
use Rattle.vmod_cookie.proofs.written.quoted_at.Goals as goal

read_at : {E : Type 0} (text : List ℕ) (from : ℕ) → from ≤ length text → (r : Result (Option (List ℕ × ℕ)) E)
    → IfOk r (λ found. MatchOption found ((values : List ℕ) (behind : ℕ) → IsQuotedAt text from values behind → ⊥) (λ x. IsQuotedAt text from x.0 x.1))
    → IfOk r (λ found. MatchOption found (quoted_in (drop from text) ≡ None) (λ x. (quoted_in (drop from text) ≡ Some (x.0, drop x.1 text)) × (from < x.1) × (x.1 ≤ length text)))
read_at text from within (Err e) h = h
read_at text from within (Ok None) h = missing_read text from within h
read_at text from within (Ok (Some x)) h = found_read text x.0 from x.1 h

pub returns : goal.returns
returns c = read_at c.args.text.now c.args.from c.requires c.quoted.result c.quoted.ensures.ok
