-- For which site a request is (RFC 9112, sections 3.2 and 3.3).
use Rattle.std.specs.Prelude.{Bool, ◌&&◌, not, nat_lt, codes}
use Rattle.http_heads.specs.declared.message.RequestHead.{RequestHead}
use Rattle.http_heads.specs.Fields.{count_of}
use Rattle.seen_request.specs.Targets.{lacks_authority}

-- The request says one site at most: it has one Host field at most, and where its target is absolute, that has an authority.
-- Another request can't be read.
abbrev pub is_of_one_site : RequestHead → Bool
is_of_one_site head = nat_lt (count_of (codes "host") head.fields) 2 && not (lacks_authority head.url)
