-- The reasons that go with statuses (RFC 9110, section 15; Varnish Reference Manual, VCL-Variables, "resp.status").
use Rattle.std.specs.Prelude.{ℕ, ℤ, pos, List, Option, Some, None, codes, unwrap_or, if◌then◌else◌}
use Rattle.std.specs.Ordering.{int_eq}

-- the table; a status outside it has none
abbrev pub reason_of : ℤ → Option (List ℕ)
reason_of status =
    if int_eq status (pos 200) then Some (codes "OK") else (
    if int_eq status (pos 400) then Some (codes "Bad Request") else (
    if int_eq status (pos 403) then Some (codes "Forbidden") else (
    if int_eq status (pos 404) then Some (codes "Not Found") else (
    if int_eq status (pos 405) then Some (codes "Method Not Allowed") else (
    if int_eq status (pos 500) then Some (codes "Internal Server Error") else (
    if int_eq status (pos 501) then Some (codes "Not Implemented") else (
    if int_eq status (pos 503) then Some (codes "Service Unavailable") else
    None)))))))

-- where VCL gives none
abbrev pub reason_or_unknown : ℤ → List ℕ
reason_or_unknown status = unwrap_or (reason_of status) (codes "Unknown")
