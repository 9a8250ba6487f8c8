use Rattle.std.proofs.Common.{ℕ, List, not, refl, rules}
use Rattle.std.proofs.lemmas.Iterator.Search.{position_from_yields_List}
use Rattle.std.proofs.lemmas.Iterator.Consumers.{YieldsList-from_first}
use Rattle.evaluation.specs.Answer.{coefficient_stands}
use Rattle.evaluation.specs.Padded.{terms_left}
use Rattle.evaluation.proofs.questions.first_bad_coefficient.Goals as goal

pub returns-clause-first : goal.returns-clause-first
returns-clause-first g c =
    position_from_yields_List (λ (t : List ℕ). not (coefficient_stands (g.F.Field.meaning c.args.field.now) t)) c.position.new.self _ _ c.position.ensures.ran
    (YieldsList-from_first (λ x. x) terms_left (terms_left c.args.terms) refl) (λ x b q k. search rules)
