use Rattle.std.proofs.Common.{length, refl}
use Rattle.std.proofs.lemmas.Result.{err_from_is_err_and}
use Rattle.conversion.proofs.Converting.{refused_first, refused-shape, refused-table, rows-free, converted}
use Rattle.conversion.proofs.convert.convert.Goals as goal

pub returns-in_err-ask_vector : goal.returns-in_err-ask_vector
returns-in_err-ask_vector g c =
    let p = err_from_is_err_and c.from_residual.result c.from_residual.ensures.1 in
    rw (p.1, p.2) (record {
      refused_as_was = refl;
      rest_unchanged = refl;
      answered = λ laws cmp ps O S H. refused_first _ laws cmp O c.args.n ps S c.args.tables.now H c.args.k c.args.r.now (length c.args.out.now) _ c.in_err-ask_vector.ensures;
    })

pub returns-in_err-ask_shape : goal.returns-in_err-ask_shape
returns-in_err-ask_shape g c =
    let m = g.F.Field.meaning c.args.field.now in
    let n = c.args.n in
    let k = c.args.k in
    let r = c.args.r.now in
    let t = c.args.tables.now in
    let room = length c.args.out.now in
    let Y = c.in_ok-ask_vector.ensures in
    let p = err_from_is_err_and c.from_residual-in_err-ask_shape.result c.from_residual-in_err-ask_shape.ensures.1 in
    rw (p.1, p.2) (record {
      refused_as_was = refl;
      rest_unchanged = refl;
      answered = λ laws cmp ps O S H.
          refused-shape m laws cmp O n ps S t H k r room Y _ (c.in_err-ask_shape.ensures laws H.ready);
    })

pub returns-in_err-ask_rows : goal.returns-in_err-ask_rows
returns-in_err-ask_rows g c =
    let m = g.F.Field.meaning c.args.field.now in
    let n = c.args.n in
    let k = c.args.k in
    let r = c.args.r.now in
    let t = c.args.tables.now in
    let room = length c.args.out.now in
    let Y = c.in_ok-ask_vector.ensures in
    let p = err_from_is_err_and c.from_residual-in_err-ask_rows.result c.from_residual-in_err-ask_rows.ensures.1 in
    rw (p.1, p.2) (record {
      refused_as_was = refl;
      rest_unchanged = refl;
      answered = λ laws cmp ps O S H.
          let shape = c.in_ok-ask_shape.ensures laws in
          refused-table m laws cmp O n ps S t H k r room Y shape.0 _ (c.in_err-ask_rows.ensures laws shape.1 H.ready);
    })

pub returns : goal.returns
returns g c =
    let m = g.F.Field.meaning c.args.field.now in
    let n = c.args.n in
    let k = c.args.k in
    let r = c.args.r.now in
    let t = c.args.tables.now in
    let room = length c.args.out.now in
    let Y = c.in_ok-ask_vector.ensures in
    let w = c.write.ensures in
    record {
      refused_as_was = w.refused_as_was;
      rest_unchanged = w.rest_unchanged;
      answered = λ laws cmp ps O S H.
          let shape = c.in_ok-ask_shape.ensures laws in
          let table = c.in_ok-ask_rows.ensures laws shape.1 in
          let connection = c.ask_rows.new.self.connection in
          converted m laws cmp O n ps S t H k r room Y shape.0 connection table.0 c.write.new.out c.write.auto.out c.write.result
          (w.rows laws H.ready table.1 (rows-free m laws cmp O n ps S t H k r room Y shape.0 connection table.0));
    }
