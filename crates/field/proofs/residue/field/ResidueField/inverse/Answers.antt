use Rattle.std.proofs.Common.{◌≡◌, ℕ, ◌*◌, ◌%◌, ◌<◌, T, ◌&&◌, not, nat_lt, ◌==◌, Bool, Option, Some, None, sym, ◌∙◌, rules, tests, arith}
use Rattle.std.proofs.lemmas.Bool.Decides.{nat_tests}
use Rattle.std.specs.Option.{is_some, IfSome}
use Rattle.field.specs.Primes.{listed}
use Rattle.field.specs.Meaning.{total}
use Rattle.field.specs.Residues.{residues}
use Rattle.field.specs.ResidueLaws.{residue_inverse}
use Rattle.field.proofs.residue.field.ResidueField.inverse.Goals as goal

-- what is answered has the product 1, and it is answered of every element but zero
answered : (p a : ℕ) (r : Option ℕ) → T (listed p) → is_some r ≡ (nat_lt a p && not (a == 0)) → IfSome r (λ x. (x < p) × ((a * x) % p ≡ 1)) → r ≡ (total (residues p)).inv a
answered p a (Some x) t e s = sym (residue_inverse p t a x (grind (arith, nat_tests)) (grind (arith, nat_tests)) s.0 s.1)
answered p a None t e s = search (rules, tests)

pub returns : goal.returns
returns c = answered c.args.self.now.p c.args.a c.then.result c.args.self.now.prime (search (rules, tests)) (search (rules, tests))
