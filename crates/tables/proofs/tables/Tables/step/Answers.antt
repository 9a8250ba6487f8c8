use Rattle.std.proofs.Common.{◌≡◌, ℕ, List, length, take, drop, sym, subst}
use Rattle.std.proofs.lemmas.Result.{on_ok_weaker}
use Rattle.algebra.specs.Elements.{Elems}
use Rattle.linear.specs.declared.step.Place.{Place}
use Rattle.linear.specs.Step as linear
use Rattle.tables.specs.Holds.{stair_count, places_of}
use Rattle.tables.proofs.tables.Tables.step.Goals as goal

pub returns : goal.returns
returns g c =
    let m = g.F.Field.meaning c.args.field.now in
    let t = c.args.self.now in
    let k = c.args.k in
    let d = stair_count t in
    let out = c.step.new.out in
    let given : List Place = places_of t k in
    let e = c.step.ensures in
    let is = c.size.ensures in
    record {
      refused_as_was = e.refused_as_was;
      rest_unchanged = subst (λ (d : ℕ). drop d out ≡ drop d c.args.out.now) is e.rest_unchanged;
      stepped = record {
        answers = λ n few l ready words room. e.fits.1 (subst (λ (d : ℕ). linear.Fits d given (length t.columns) 48 (length c.args.v.now) (length c.args.out.now)) (sym is)
            (let f = ready k l in record { enough_places = f.enough_places; enough_words = words; enough_rows = room; within = f.within }));
        product = on_ok_weaker c.step.result
            (λ stepped els. let s = subst (λ (d : ℕ). linear.Stepped m d given t.columns 48 c.args.v.now out) is (stepped (subst (λ (d : ℕ). Elems m (take d c.args.v.now)) (sym is) els)) in record { elements = s.elements; applied = s.applied })
            e.stepped;
      };
    }
