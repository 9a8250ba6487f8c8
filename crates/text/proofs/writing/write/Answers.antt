use Rattle.std.proofs.Common.{ℕ, Ok, subst, arith}
use Rattle.column.specs.Column.{Word}
use Rattle.polynomials.specs.declared.fault.JobFault.TheVariants.{ShortOutput}
use Rattle.polynomials.specs.declared.store.Polynomials.{Polynomials}
use Rattle.polynomials.specs.Held.{held}
use Rattle.runs.specs.Writing.{basis_text}
use Rattle.job.specs.State.{state}
use Rattle.text.specs.Written.{Wrote, AllWords}
use Rattle.text.proofs.RoundTrip.{reads_back}
use Rattle.text.proofs.writing.write.Goals as goal

pub returns : goal.returns
returns g c =
    let j = state c.args.job.now.table in
    let f = c.args.field_code in
    let o = c.args.order_code in
    let h = c.in_ok-size.ensures in
    let w : Wrote ShortOutput (basis_text f o j.n j.polynomials) c.args.out.now c.write_text.new.out (Ok c.in_ok-size.size) =
    subst (λ (s : Polynomials). Wrote ShortOutput (basis_text f o j.n (held s)) c.args.out.now c.write_text.new.out (Ok c.in_ok-size.size)) c.polynomials.ensures
    (subst (λ (n : ℕ). Wrote ShortOutput (basis_text f o n (held c.polynomials.result.now)) c.args.out.now c.write_text.new.out (Ok c.in_ok-size.size)) c.variables.ensures.value h.wrote) in
    let fit : AllWords j.polynomials = subst (λ (s : Polynomials). AllWords (held s)) c.polynomials.ensures h.fit in
    let hf : Word f = let k = c.ranges.field_code.fits in omega arith in
    let ho : Word o = let k = c.ranges.order_code.fits in omega arith in
    record { wrote = w; reads_back = λ laws K. reads_back ShortOutput _ laws _ j K.sound fit f o hf ho c.args.out.now c.write_text.new.out c.in_ok-size.size w }
