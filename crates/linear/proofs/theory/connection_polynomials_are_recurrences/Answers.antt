use Rattle.algebra.specs.Elements.{field_of}
use Rattle.linear.proofs.Lengths
use Rattle.linear.proofs.Massey
use Rattle.linear.proofs.theory.connection_polynomials_are_recurrences.Goals as goal

pub returns : goal.returns
returns c = record {
  same_lengths = λ m laws s l N. (λ x. (_, Lengths.recurs→gen (field_of m laws) s l N x), λ y. Lengths.gen→recurs (field_of m laws) s y.0 l N y.1);
  monic = λ m laws s C l N g j h. Lengths.monic_shifted (field_of m laws) s C l N g j h;
  massey = λ m laws s C E l k N g ne g'. Massey.bound (field_of m laws) s C E l k N g ne g';
  first_words = λ m laws s t C l N h. Lengths.first_words (field_of m laws) s t C l N h;
}
