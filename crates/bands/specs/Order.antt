-- The bands as an order of kinds.
use Rattle.orders.specs.Meaning.{Meaning}
use Rattle.bands.specs.declared.band.Band.{Band}
use Rattle.bands.specs.Bands.{Under, widest, common}
use Rattle.bands.specs.Rules.{itself, widest_is, through, both_ways, common_is}

abbrev pub bands : Meaning Band
bands =
    record {
      under = Under;
      widest = widest;
      common = common;
      itself = itself;
      widest_is = widest_is;
      through = through;
      same = both_ways;
      common_is = common_is;
    }
