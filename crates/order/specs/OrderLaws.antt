-- DRL and LEX keep the laws of an order.
use Rattle.std.specs.Prelude.{◌≡◌, ℕ, ◌<◌, ◌⊎◌, ◌↔◌, refl}
use Rattle.std.specs.declared.cmp.Ordering.TheVariants.{Less, Equal}
use Rattle.std.specs.declared.cmp.Ordering.{Ordering}
use Rattle.std.proofs.Common.{sym, ◌∙◌, ap, ap₂, inl, inr, arith}
use Rattle.std.specs.Ordering.{ordering_reverse, ordering_then}
use Rattle.order.specs.declared.monomial.Monomial.{Monomial}
use Rattle.order.specs.Monomials.{variables, exponent, raise, degree}
use Rattle.order.specs.Laws.{Comparison, OrderLaws}
use Rattle.order.specs.Orders.{number, lowest, drl, lex}
use Rattle.order.specs.Exponents.{same_exponents, exponent_raise, unit, unit_at, unit_off}
use Rattle.order.specs.Variables.{degree_raise}
use Rattle.order.specs.Numbers.{number_shifted, number_lt, number_same, number_less, number_equal, then_equal, then_less, Ranking, ranked_number, ranked_then}
use Rattle.order.specs.Differences.{ranked_highest, ranked_lowest, highest_equal, lowest_equal, highest_like, lowest_like, highest_less_to, highest_less_from, lowest_less_to, lowest_less_from}

-- ---- what the two share: a ranking that tells monomials apart and looks only at how numbers compare

laws_of : (cmp : Comparison) → Ranking cmp → ((a b : Monomial) → cmp a b ≡ Equal → a ≡ b) → ((k : ℕ) → k < variables → (a b : Monomial) → cmp (raise k a) (raise k b) ≡ cmp a b) → ((k : ℕ) → k < variables → (a : Monomial) → cmp a (raise k a) ≡ Less) → OrderLaws cmp
laws_of cmp R apart shift up = record {
  self = λ a s. R.self a;
  equal = λ a b s t. apart a b;
  exchanged = λ a b s t. R.exchanged a b;
  transitive = λ a b c s t u. R.transitive a b c;
  raised = λ k l a b s t. shift k l a b;
  above = λ k l a s. R.exchanged a (raise k a) ∙ ap ordering_reverse (up k l a);
}

-- raising one exponent in both keeps how the exponents compare
number_raised : (k : ℕ) → k < variables → (a b : Monomial) (j : ℕ) → number (exponent (raise k a) j) (exponent (raise k b) j) ≡ number (exponent a j) (exponent b j)
number_raised k l a b j = ap₂ number (exponent_raise k l a j) (exponent_raise k l b j) ∙ number_shifted (unit k j) (exponent a j) (exponent b j)

-- ---- LEX

pub lex_laws : OrderLaws lex
unfolding lex
lex_laws = laws_of lex (ranked_highest exponent variables)
    (λ a b h. same_exponents a b (highest_equal variables (exponent a) (exponent b) h))
    (λ k l a b. highest_like variables (exponent (raise k a)) (exponent (raise k b)) (exponent a) (exponent b) (λ j q. number_raised k l a b j))
    (λ k l a. highest_less_from variables (exponent a) (exponent (raise k a)) k l (omega (arith, exponent_raise k l a k, unit_at k)) (λ j p q. omega (arith, exponent_raise k l a j, unit_off k j (omega arith))))

-- ---- DRL

-- the lowest difference, the two exchanged
ranked_tie : Ranking (λ a b. lowest variables (exponent b) (exponent a))
ranked_tie = let R = ranked_lowest exponent variables in record {
  self = λ a. R.self a;
  exchanged = λ a b. R.exchanged b a;
  tied = λ a b c h. R.exchanged a c ∙ ap ordering_reverse (R.tied a b c (R.exchanged b a ∙ ap ordering_reverse h)) ∙ sym (R.exchanged b c);
  transitive = λ a b c h g. R.transitive c b a g h;
}

pub drl_laws : OrderLaws drl
unfolding drl
drl_laws = laws_of drl (ranked_then (ranked_number degree) ranked_tie)
    (λ a b h. same_exponents a b (λ k l. sym (lowest_equal variables (exponent b) (exponent a) (then_equal _ _ h).1 k l)))
    (λ k l a b. ap₂ ordering_then (ap₂ number (degree_raise k l a) (degree_raise k l b) ∙ number_shifted 1 (degree a) (degree b)) (lowest_like variables (exponent (raise k b)) (exponent (raise k a)) (exponent b) (exponent a) (λ j q. number_raised k l b a j)))
    (λ k l a. ap (λ o. ordering_then o (lowest variables (exponent (raise k a)) (exponent a))) (number_lt (degree a) (degree (raise k a)) (omega (arith, degree_raise k l a))))

pub drl_by_degree : (a b : Monomial) (x y : ℕ) → x ≡ degree a → y ≡ degree b → (o : Ordering) → number x y ≡ o → drl a b ≡ ordering_then o (lowest variables (exponent b) (exponent a))
unfolding drl
drl_by_degree a b x y p q o e = ap (λ r. ordering_then r (lowest variables (exponent b) (exponent a))) (ap₂ number (sym p) (sym q) ∙ e)

-- ---- the two in the words of a relation

pub lex_in_words : (a b : Monomial) → lex a b ≡ Less ↔ ((k : ℕ) × (k < variables) × (exponent a k < exponent b k) × ((j : ℕ) → k < j → j < variables → exponent a j ≡ exponent b j))
unfolding lex
lex_in_words a b = (highest_less_to variables (exponent a) (exponent b), λ t. highest_less_from variables (exponent a) (exponent b) t.0 t.1 t.2 t.3)

pub drl_in_words : (a b : Monomial) → drl a b ≡ Less ↔ ((degree a < degree b) ⊎ ((degree a ≡ degree b) × ((k : ℕ) × (k < variables) × (exponent b k < exponent a k) × ((j : ℕ) → j < k → exponent b j ≡ exponent a j))))
unfolding drl
drl_in_words a b = (λ h. to (then_less _ _ h), from)
  where
    to : (number (degree a) (degree b) ≡ Less) ⊎ ((number (degree a) (degree b) ≡ Equal) × (lowest variables (exponent b) (exponent a) ≡ Less)) → (degree a < degree b) ⊎ ((degree a ≡ degree b) × ((k : ℕ) × (k < variables) × (exponent b k < exponent a k) × ((j : ℕ) → j < k → exponent b j ≡ exponent a j)))
    to (inl e) = inl (number_less (degree a) (degree b) e)
    to (inr e) = inr (number_equal (degree a) (degree b) e.0, lowest_less_to variables (exponent b) (exponent a) e.1)

    from : (degree a < degree b) ⊎ ((degree a ≡ degree b) × ((k : ℕ) × (k < variables) × (exponent b k < exponent a k) × ((j : ℕ) → j < k → exponent b j ≡ exponent a j))) → drl a b ≡ Less
    from (inl h) = drl_by_degree a b (degree a) (degree b) refl refl Less (number_lt (degree a) (degree b) h)
    from (inr h) = let t = h.1 in drl_by_degree a b (degree a) (degree b) refl refl Equal (number_same (degree a) (degree b) h.0) ∙ lowest_less_from variables (exponent b) (exponent a) t.0 t.1 t.2 t.3
