use Rattle.algebra.specs.Elements.{field_of}
use Rattle.linear.proofs.Tables
use Rattle.linear.proofs.theory.hankel_tables_tell_krylov_vectors.Goals as goal

pub returns : goal.returns
returns c m laws D T lin e = Tables.table (field_of m laws) D T lin e
