use Rattle.std.proofs.Common.{refl, arith}
use Rattle.polynomials.specs.declared.fault.JobFault.TheVariants.{ShortOutput}
use Rattle.polynomials.specs.Held.{held}
use Rattle.polynomials.proofs.Stored.{few_held}
use Rattle.text.proofs.Sizes.{text_long}
use Rattle.text.proofs.Placing.{text_placed}
use Rattle.text.proofs.layout.Layout.write_text.Goals as goal

pub returns-then-out-text_length : goal.returns-then-out-text_length
returns-then-out-text_length c = record {
  wrote = (refl, omega (arith, c.if-out-text_length.true, c.text_length.ensures, text_long c.args.field_code c.args.order_code c.args.self.n (held c.args.polynomials.now)), refl);
  fit = tt;
}

pub overflow_cast-count : goal.overflow_cast-count
overflow_cast-count c = omega (arith, c.count-count.ensures, few_held c.args.polynomials.now)

pub returns : goal.returns
returns c = record {
  wrote =
      text_placed ShortOutput c.args.field_code c.args.order_code c.args.self.n c.count-count.result (held c.args.polynomials.now) c.args.out.now c.put_line-first.new.out c.put_polynomials.new.out c.put_line-first.result c.put_polynomials.result
      (omega (arith, c.if-out-text_length.false, c.text_length.ensures)) c.count-count.ensures
      c.put_line-first.ensures.long c.put_line-first.ensures.place_after c.put_line-first.ensures.bytes c.put_polynomials.ensures.long c.put_polynomials.ensures.place_after c.put_polynomials.ensures.bytes;
  fit = c.put_polynomials.ensures.fit;
}
