-- What Connection names is asked of the fields of that name alone.
use Rattle.std.proofs.Common.{◌∙◌, ap, codes, sym, List, ℕ, Bool, ◌||◌}
use Rattle.http_heads.specs.declared.fields.Field.{Field}
use Rattle.http_heads.specs.Lists.{is_listed}
use Rattle.seen_request.proofs.Connections.{listed_by_named}
use Rattle.seen_request.proofs.seeing.is_of_connection.Goals as goal

-- src/seeing.rt:31:1
pub returns-else-has_name : goal.returns-else-has_name
returns-else-has_name c = λ fields are.
    c.is_listed.ensures ∙ ap (λ (word : List ℕ). is_listed (codes "connection") word c.args.connection.now) c.bytes.ensures
    ∙ ap (λ (those : List Field). is_listed (codes "connection") c.args.field.now.name those) are ∙ listed_by_named (codes "connection") c.args.field.now.name fields
    ∙ sym (ap (λ (named : Bool). named || is_listed (codes "connection") c.args.field.now.name fields) (sym c.has_name.ensures ∙ c.if-has_name.false))
