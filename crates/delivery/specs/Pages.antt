-- Responses that no VCL has a part in.
use Rattle.std.specs.Prelude.{ℕ, List, [], codes}
use Rattle.http_heads.specs.Fields.{appended}
use Rattle.delivery.specs.declared.finishing.Delivery.{Delivery}
use Rattle.delivery.specs.declared.pages.Failure.{Failure}
use Rattle.delivery.specs.declared.pages.Failure.TheVariants as failures

abbrev pub reason_of : Failure → List ℕ
reason_of failures.TooManyRestarts = codes "Too many restarts"
reason_of failures.VclFailed = codes "VCL failed"
reason_of failures.FetchFailed = codes "Backend fetch failed"

-- the response where no VCL is left that could make one: no body, and the connection is closed behind it
abbrev pub failed : Delivery
failed = record {
  head = record {
    version = 11;
    status = 503;
    reason = codes "VCL failed";
    fields = appended (codes "Connection") (codes "close") (appended (codes "Content-Length") (codes "0") []);
  };
  body = [];
}
