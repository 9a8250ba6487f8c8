use Rattle.std.proofs.Common.{◌≡◌, ◌+◌, ◌-◌, ◌<◌, ◌≤◌, List, [], ◌∷◌, ◌++◌, map, length, get_or, refl, ap, ◌∙◌, arith, length-set}
use mathlib.Core.Bool.{false≢true}
use Rattle.std.proofs.lemmas.List.{map-append}
use Rattle.staircase.specs.declared.rules.Term.{Term}
use Rattle.polynomials.specs.Held.{entries, terms_of}
use Rattle.polynomials.proofs.Stored.{count_is, terms_held_is, length_put, entries_more, rises_more, within_more, start_before}
use Rattle.polynomials.proofs.store.Polynomials.push.Goals as goal
use Rattle.polynomials.proofs.store.Polynomials.push.Goals.{then-self-eq-MOST-via-then-self-eq-MOST, then-self-eq-MOST-via-else-self-eq-MOST+then-terms-start}

pub returns-then-self-eq-MOST-clause-answers : goal.returns-then-self-eq-MOST-clause-answers
returns-then-self-eq-MOST-clause-answers c = (
  λ e. absurd (false≢true e),
  λ p. elim c.then-self-eq-MOST.branch [
    | then-self-eq-MOST-via-then-self-eq-MOST w ↦ absurd (omega (arith, w.if-self-eq-MOST.true, count_is c.args.self.now, p.0))
    | then-self-eq-MOST-via-else-self-eq-MOST+then-terms-start w ↦ absurd (omega (arith, w.if-terms-start.true, terms_held_is c.args.self.now, p.1))
  ],
)

pub invariant_of-self : goal.invariant_of-self
invariant_of-self c =
    let s = c.args.self.now in
    let start = get_or s.starts s.count 0 in
    let end = start + length c.args.terms.now in
    let room : s.count + 1 < length s.starts = omega (arith, s.places, s.few) in
    let put = c.copy_from_slice.new.self in
    let le : start + (end - start) ≤ length s.terms = omega (arith, s.room, s.within s.count (omega arith)) in
    let long : length put ≡ end - start = ap length c.copy_from_slice.ensures.after ∙ omega arith in
    record {
      places = length-set s.starts (s.count + 1) end ∙ s.places;
      room = length_put start (end - start) s.terms put le long ∙ s.room;
      few = omega (arith, s.few);
      begins = start_before s.starts s.terms s.count room end put 0 (omega arith) ∙ s.begins;
      rising = rises_more s.starts s.terms s.count room end put s.rising (omega arith);
      within = within_more s.starts s.terms s.count room end put 1024 s.within (omega arith);
    }

pub returns-clause-answers : goal.returns-clause-answers
returns-clause-answers c =
    let s = c.args.self.now in
    (λ _. (omega (arith, count_is s), omega (arith, terms_held_is s, s.within s.count (omega arith))), λ _. refl)

pub returns-clause-pushed : goal.returns-clause-pushed
unfolding entries
returns-clause-pushed c =
    let s = c.args.self.now in
    let start = get_or s.starts s.count 0 in
    let end = start + length c.args.terms.now in
    let room : s.count + 1 < length s.starts = omega (arith, s.places, s.few) in
    let put = c.copy_from_slice.new.self in
    let long : length put ≡ end - start = ap length c.copy_from_slice.ensures.after ∙ omega arith in
    ap (map terms_of) (entries_more s.starts s.terms s.count room end put s.rising (λ i l. omega (arith, s.within i l, s.room)) (end - start) long)
    ∙ map-append terms_of _ (put ∷ [])
    ∙ ap (λ (ts : List Term). map terms_of (entries s) ++ (terms_of ts ∷ [])) c.copy_from_slice.ensures.after
