-- The row of the lead byte has N bytes, and N begin it. With text_led as the function's own law the search leaves this goal open.
use Rattle.lent.proofs.Prelude.{arith, sym, ◌∙◌, ◌≡◌, eqb-true}
use Rattle.utf8.proofs.Texts.{text_led}
use Rattle.utf8.proofs.sequence.Goals as goal

pub returns-then-row_len : goal.returns-then-row_len
returns-then-row_len g c e =
    let r : c.row_len.result ≡ g.row.N = omega arith in
    let b : c.begun_at.result ≡ g.row.N = eqb-true _ _ e in
    text_led g.row.N c.requires (omega (arith, c.type_inv.bytes c.args.at)) (sym c.row_len.ensures ∙ r) (rw b at (sym c.begun_at.ensures))
