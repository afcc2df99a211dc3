-- The answer to what is no request.
use Rattle.std.specs.Prelude.{ℕ, List, ◌++◌, codes}
use Rattle.http_heads.specs.Printed.{line_end}

-- what is answered where no grammar reads a request, or one passes a limit (RFC 9110, section 15.5.1)
abbrev pub bad_request : List ℕ
bad_request = codes "HTTP/1.1 400 Bad Request" ++ line_end ++ codes "Content-Length: 0" ++ line_end ++ codes "Connection: close" ++ line_end ++ line_end
