-- How long texts are: at least as long as their numbers of columns say, whatever the numbers.
use Rattle.std.proofs.Common.{◌≡◌, ℕ, suc, ◌-◌, ◌*◌, ◌≤◌, List, [], ◌∷◌, length, replicate, decimal, sym, ap, suc-mul, zero-mul, arith, length-append}
use lib.ListN.{length-replicate}
use Rattle.std.specs.List.{flat_map}
use Rattle.column.specs.Column.{column}
use Rattle.column.specs.Line.{columns, line, line_length}
use Rattle.order.specs.Monomials.{exponent}
use Rattle.runs.specs.Job.{Term}
use Rattle.runs.specs.Writing.{term_line, polynomial_text, basis_text}
use Rattle.runs.proofs.Outputs.{length_build}
use Rattle.text.specs.Written.{term_words, sizes, term_size, terms_size, polynomial_size, text_size}

column_long : (w : ℕ) → 11 ≤ length (column w)
unfolding column
column_long w = omega (arith, length-append (replicate (11 - length (decimal w)) 32) (decimal w), length-replicate {A = ℕ} (11 - length (decimal w)) 32)

columns_long : (ws : List ℕ) → 11 * length ws ≤ length (columns ws)
unfolding columns
columns_long [] = omega arith
columns_long (w ∷ ws) = omega (arith, length-append (column w) (columns ws), column_long w, columns_long ws)

line_long : (ws : List ℕ) → line_length (length ws) ≤ length (line ws)
unfolding line
line_long ws = omega (arith, length-append (columns ws) (10 ∷ []), columns_long ws)

pub length_term_words : (n : ℕ) (t : Term) → length (term_words n t) ≡ suc n
length_term_words n t = ap suc (length_build n (exponent t.1))

term_long : (n : ℕ) (t : Term) → line_length (suc n) ≤ length (term_line n t)
term_long n t = omega (arith, line_long (term_words n t), length_term_words n t)

joined_long : {X : Type 0} (f : X → List ℕ) (size : X → ℕ) → ((x : X) → size x ≤ length (f x)) → (xs : List X) → sizes size xs ≤ length (flat_map f xs)
joined_long f size h [] = omega arith
joined_long f size h (x ∷ xs) = omega (arith, h x, joined_long f size h xs, length-append (f x) (flat_map f xs))

pub sizes_terms : (n : ℕ) (p : List Term) → sizes (term_size n) p ≡ terms_size n p
sizes_terms n [] = sym (zero-mul (line_length (suc n)))
sizes_terms n (t ∷ p) = omega (arith, sizes_terms n p, suc-mul (length p) (line_length (suc n)))

polynomial_long : (n : ℕ) (p : List Term) → polynomial_size n p ≤ length (polynomial_text n p)
polynomial_long n p =
    omega (arith, length-append (line (length p ∷ [])) (flat_map (term_line n) p), line_long (length p ∷ []), joined_long (term_line n) (term_size n) (term_long n) p, sizes_terms n p)

-- the whole text
pub text_long : (f o n : ℕ) (ps : List (List Term)) → text_size n ps ≤ length (basis_text f o n ps)
text_long f o n ps =
    omega (arith, length-append (line (f ∷ o ∷ n ∷ length ps ∷ [])) (flat_map (polynomial_text n) ps), line_long (f ∷ o ∷ n ∷ length ps ∷ []), joined_long (polynomial_text n) (polynomial_size n) (polynomial_long n) ps)
