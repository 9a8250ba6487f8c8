use Rattle.std.proofs.Common.{ℕ, List, not, nat_le, drop, refl, rules}
use Rattle.std.specs.List.{list_all}
use Rattle.std.proofs.lemmas.Iterator.Search.{position_from_yields_List}
use Rattle.std.proofs.lemmas.Iterator.Consumers.{YieldsList-from_first}
use Rattle.evaluation.specs.Padded.{terms_left}
use Rattle.evaluation.proofs.questions.first_bad_exponent.Goals as goal

pub returns-clause-first : goal.returns-clause-first
returns-clause-first c =
    position_from_yields_List (λ (t : List ℕ). not (list_all (λ e. nat_le e 48) (drop 1 t))) c.position.new.self _ _ c.position.ensures.ran
    (YieldsList-from_first (λ x. x) terms_left (terms_left c.args.terms) refl) (λ x b q k. search rules)
