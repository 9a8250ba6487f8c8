use Rattle.tables.specs.Products.{Wide, AllPlaced}
use Rattle.tables.proofs.products.find_places.Given as goal

abbrev pub invariant-loop-k : goal.invariant-loop-k
invariant-loop-k l = Wide l.all × AllPlaced l.k l.stairs l.edges l.all
