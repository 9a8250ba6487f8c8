use Rattle.std.proofs.Common.{ℕ, List, Err, ◌∙◌}
use Rattle.std.proofs.lemmas.Result.{err_from_is_err_and}
use Rattle.field.specs.Meaning.{FieldLaws}
use Rattle.shaping.specs.Steps.{Loaded, AtRequest, Given}
use Rattle.shaping.proofs.Loading.{with_same}
use Rattle.shaping.proofs.Shaping.{load_refused}
use Rattle.shaping.proofs.basis.shaped.Goals as goal

pub returns-in_err-reader : goal.returns-in_err-reader
returns-in_err-reader g c =
    let p = err_from_is_err_and c.from_residual.result c.from_residual.ensures.1 in
    let loaded = with_same g.F.Field.meaning g.O.Order.meaning _ _ _ _ (c.new-job.ensures.field, c.new-job.ensures.order) (λ m cmp. (laws : FieldLaws m) → Loaded m laws cmp c.args.n c.args.text.now c.load.new.job.table (Err c.in_err-reader.field-0.0)) c.in_err-reader.ensures.loaded in
    rw (p.1, p.2) (record { given = λ laws. load_refused (g.F.Field.meaning c.args.field) laws (g.O.Order.meaning c.args.order) c.args.n c.args.text.now c.in_err-reader.field-0.0 (loaded laws) })

pub shape-requires : goal.shape-requires
shape-requires g c = record { few = (c.requires.few.1, (c.in_ok-reader.ensures.loaded (g.met.F.Field.lawful c.new-job.result.field)).loaded.few) }

pub returns : goal.returns
returns g c =
    let n = c.args.n in
    let bs = c.args.text.now in
    let t = c.load.new.job.table in
    let same : _ × _ = (c.load.ensures.same_field_and_order.0 ∙ c.new-job.ensures.field, c.load.ensures.same_field_and_order.1 ∙ c.new-job.ensures.order) in
    let loaded = with_same g.F.Field.meaning g.O.Order.meaning _ _ _ _ (c.new-job.ensures.field, c.new-job.ensures.order) (λ m cmp. (laws : FieldLaws m) → AtRequest m laws cmp n bs t c.in_ok-reader.size c.in_ok-reader.reader) c.in_ok-reader.ensures.loaded in
    let given = with_same g.F.Field.meaning g.O.Order.meaning _ _ _ _ same (λ m cmp. (laws : FieldLaws m) → (bs : List ℕ) → AtRequest m laws cmp n bs t c.in_ok-reader.size c.in_ok-reader.reader → Given m laws cmp n bs c.shape.result) c.shape.ensures.given in
    record { given = λ laws. given laws bs (loaded laws) }
