-- What measure answers is enough for store, and no more than enough.
use Rattle.lent.proofs.Prelude.{ℕ, ◌≡◌, sym, ap, ◌∙◌, List, arith}
use Rattle.format.specs.Undump.{UndumpLeft}
use Rattle.format.proofs.Measured.{few_words, few_text, enough}
use Rattle.chunk.specs.Demand3.{UndumpCall}
use Rattle.chunk.specs.Space.{ExactlyEnough}
use Rattle.chunk.proofs.Demand3.{store_is}

pub exactly_enough : {bytes : List ℕ} (c : UndumpCall bytes) → c.measure.answer.refusal ≡ 0 → ExactlyEnough c c.measure.answer
exactly_enough {bytes} c z =
    let e = c.measure.contract in
    record {
      enough = λ h k w t. ap (λ (u : UndumpLeft). u.answer) (store_is c) ∙ enough bytes c.lent.name c.lent.words c.lent.text (rw (← e) z) (rw (← e) (omega arith)) (rw (← e) (omega arith)) ∙ sym e;
      word_less = λ w. ap (λ (u : UndumpLeft). u.answer.refusal) (store_is c ∙ few_words bytes c.lent.name c.lent.words c.lent.text (rw (← e) z) (rw (← e) (omega arith)));
      byte_less = λ h w t. ap (λ (u : UndumpLeft). u.answer.refusal) (store_is c ∙ few_text bytes c.lent.name c.lent.words c.lent.text (rw (← e) z) (rw (← e) (omega arith)) (rw (← e) (omega arith)));
    }
