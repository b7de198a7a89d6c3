use Rattle.std.proofs.Common.{◌++◌, vec_items}
use Rattle.grammar.specs.Lawful.{statements}
use Rattle.features.specs.Model.{feature_names}
use Rattle.terms.specs.Terms.{said_of}
use Rattle.listing.specs.Shown.{said_shown}
use Rattle.listing.proofs.Rowing.{Adding}
use Rattle.listing.proofs.rows.Listing.put_rows.Given as goal

-- what is shown and what is left make the whole
abbrev pub invariant-loop-number : goal.invariant-loop-number
invariant-loop-number g l =
    let m = g.O.WrittenOrder.texts l.self.order.now in
    let features = feature_names l.self.features.now in
    let us = said_of l.term in
    Adding m features us l.number (vec_items l.text) (vec_items l.initial.text ++ said_shown m features (statements us))
