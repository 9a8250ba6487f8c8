use Rattle.field.proofs.residue.field.+inverse_modulo.Given as goal

abbrev pub decreases-inverse_modulo : goal.decreases-inverse_modulo
decreases-inverse_modulo l = l.a
