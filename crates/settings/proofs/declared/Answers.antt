use Rattle.std.proofs.Common.{arith}
use Rattle.features.specs.Model.{feature_names}
use Rattle.settings.proofs.Accepting.{not_refused, one_more, seven, named}
use Rattle.settings.proofs.declared.Goals as goal

pub unwrap-requires : goal.unwrap-requires
unwrap-requires c =
    let names = c.args.names.now in
    let i = c.loop-name.name-index in
    let l = c.loop-name-test.true in
    not_refused i (omega (arith, seven names c.requires)) (feature_names c.loop-name.features) (feature_names c.declare.new.self) _ c.declare.result c.loop-name.invariant (named names c.requires i _ l)
    c.declare.ensures.answer c.declare.ensures.fixed

pub loop-name-preserved : goal.loop-name-preserved
loop-name-preserved c =
    let names = c.args.names.now in
    let i = c.loop-name.name-index in
    let l = c.loop-name-test.true in
    one_more i (omega (arith, seven names c.requires)) (feature_names c.loop-name.features) (feature_names c.declare.new.self) _ c.declare.result c.loop-name.invariant (named names c.requires i _ l)
    c.declare.ensures.answer c.declare.ensures.fixed
