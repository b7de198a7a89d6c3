use Rattle.std.proofs.Common.{◌≡◌, take}
use Rattle.features.specs.Model.{feature_names}
use Rattle.settings.specs.Words.{words}
use Rattle.settings.proofs.declared.Given as goal

abbrev pub invariant-loop-name : goal.invariant-loop-name
invariant-loop-name l = feature_names l.features ≡ take l.name-index words
