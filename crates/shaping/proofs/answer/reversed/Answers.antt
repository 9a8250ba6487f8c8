use Rattle.std.proofs.Common.{IsSome, IsOk, sym, ◌∙◌, subst}
use Rattle.shaping.proofs.Heading.{reversal_some, renumbered_ok}
use Rattle.shaping.proofs.answer.reversed.Goals as goal

pub unwrap-reversal-requires : goal.unwrap-reversal-requires
unwrap-reversal-requires g c = subst IsSome (sym c.reversal.ensures) (reversal_some c.args.n c.requires.few.0 c.requires.few.1)

pub unwrap-requires : goal.unwrap-requires
unwrap-requires g c = subst IsOk (sym c.new.ensures) (renumbered_ok c.args.below c.args.n c.unwrap-reversal.result (sym c.reversal.ensures ∙ c.unwrap-reversal.ensures))
