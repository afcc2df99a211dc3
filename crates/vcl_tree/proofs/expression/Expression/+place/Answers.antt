use Rattle.std.proofs.Common.{◌≡◌, Some}
use Rattle.vcl_tree.specs.Phrase.{Either, Both, Node}
use Rattle.vcl_tree.specs.ExpressionView.{sum_label}
use Rattle.vcl_tree.specs.Places.{place_of}
use Rattle.vcl_tree.proofs.ChainPlaces.{chain_place, sum_place}
use Rattle.vcl_tree.proofs.expression.Expression.+place.Goals as goal

pub returns-in-Any : goal.returns-in-Any
returns-in-Any t c =
    let first : place_of (c.in-Any.first).value ≡ Some c.place.result = rw c.deref.ensures at c.place.ensures in
    rw (← c.self.view_is, c.in-Any.is) (chain_place Either (Node Either (c.in-Any.first).value (c.in-Any.field-1).value) (c.in-Any.field-2).items c.place.result (rw first))

pub returns-in-All : goal.returns-in-All
returns-in-All t c =
    let first : place_of (c.in-All.first).value ≡ Some c.place-in-All.result = rw c.deref-in-All.ensures at c.place-in-All.ensures in
    rw (← c.self.view_is, c.in-All.is) (chain_place Both (Node Both (c.in-All.first).value (c.in-All.field-1).value) (c.in-All.field-2).items c.place-in-All.result (rw first))

pub returns-in-Sum : goal.returns-in-Sum
returns-in-Sum t c =
    let first : place_of (c.in-Sum.first).value ≡ Some c.place-in-Sum.result = rw c.deref-in-Sum.ensures at c.place-in-Sum.ensures in
    rw (← c.self.view_is, c.in-Sum.is) (sum_place (Node (sum_label ((c.in-Sum.field-1).value).sign) (c.in-Sum.first).value ((c.in-Sum.field-1).value).term) (c.in-Sum.field-2).items c.place-in-Sum.result (rw first))
