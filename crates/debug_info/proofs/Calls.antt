-- The calls: on the function at a place, and on a pc and a register of it.
use Rattle.lent.proofs.Prelude.{ℕ, ◌≤◌, ◌<◌, ◌≡◌, refl, sym, subst, ◌∙◌, List, [], Bool, true, false, cond, arith, length, get_or, leb, le-leb, lt-leb, leb-true}
use Rattle.format.specs.Tree.{Parts, Function, Functions, parts_of}
use Rattle.format.specs.Store.{function_piece}
use Rattle.format.specs.Valid.{depth, Valid, ValidAll, ValidParts}
use Rattle.format.proofs.Refusals.{refusal_above}
use Rattle.format.specs.Refusal.{number}
use Rattle.format.specs.declared.Refusal.{Refusal}
use Rattle.proto.specs.Walk.{Stands, StandsAt, Past, to_code}
use Rattle.proto.specs.Lists.{ListsAt, ListsFound}
use Rattle.proto.specs.Places.{Placed, on_place, place_refusal}
use Rattle.proto.specs.declared.lists.Lists.{Lists}
use Rattle.proto.specs.declared.store.Store.{Store}
use Rattle.proto.proofs.ListPlaces.{lists_stand}
use Rattle.proto.proofs.Items.{code_stands, ints_count}
use Rattle.proto.proofs.Sources.{all_suc, function_stands, On, place_on, on_answer, on_related, on_refused}
use Rattle.debug_info.specs.Calls.{on_register, register_refusal}

-- ---- the function that stands at a place

module _ {words text : List ℕ} {place : ℕ} (o : On words text place) where
  -- what holds of every function that stands there, well formed, holds of the one found. Valid is opened for both of its parts: by laws they are two
  pub of_function : (P : Function → Type 0) → ((p : Parts) (fs : Functions) → ValidParts p → ValidAll fs depth → StandsAt words text place (function_piece (Function.function p fs)) → P (Function.function p fs)) → P o.function.function
  unfolding Valid
  of_function P g =
      let x = function_stands [] place o.function o.holds o.begins in
      (elim o.function.function as (λ f. Valid f depth → Stands words text place x.0.to (function_piece f) → P f) [ Function.function p fs ↦ λ v h. g p fs v.0 (all_suc fs _ v.2) (record { to = x.0.to; stands = h }) ])
      x.0.valid (subst (λ (at : ℕ). Stands words text at x.0.to (function_piece o.function.function)) x.1 x.0.stands)

  -- its code's length
  pub of_code : {a x : ℕ} → ((p : Parts) (fs : Functions) → Past words (to_code p fs) place a) → x ≡ get_or words a 0 → x ≡ length (parts_of o.function.function).code
  of_code {x = x} w e = of_function (λ f. x ≡ length (parts_of f).code) (λ p fs u v h. e ∙ ints_count p.code (code_stands p fs h.stands (w p fs)))

-- ---- a pc and a register of it

pub record OnRegister (words text : List ℕ) (place pc reg : ℕ) : Type 0 where
  pub on : On words text place
  pub pc_within : pc ≤ length (parts_of on.function.function).code
  pub reg_within : reg ≤ 255

abbrev within : {A : Type 0} → (ℕ → A) → (Function → A) → ℕ → ℕ → Placed → A
within refuse answer pc reg x = cond (leb pc (length (parts_of x.function).code)) (cond (leb reg 255) (answer x.function) (refuse 14)) (refuse 13)

module _ (words text : List ℕ) (place pc reg : ℕ) where
  -- the refusal of the place
  pub register_place : (e : Refusal) → number e ≡ place_refusal words text place → number e ≡ register_refusal words text place pc reg
  unfolding register_refusal
  register_place e h = let k = refusal_above e in h ∙ sym (on_refused (λ n. n) (within (λ n. n) (λ f. 0) pc reg) words text place (λ z. omega arith))

  module _ {a x : ℕ} (z : 0 ≡ place_refusal words text place) (w : (p : Parts) (fs : Functions) → Past words (to_code p fs) place a) (e : x ≡ get_or words a 0) where
    on : On words text place
    on = place_on words text place (sym z)

    registered : register_refusal words text place pc reg ≡ cond (leb pc x) (cond (leb reg 255) 0 14) 13
    unfolding register_refusal
    registered = on_answer (λ n. n) (within (λ n. n) (λ f. 0) pc reg) on ∙ rw (← of_code on w e)

    pub register_13 : x < pc → 13 ≡ register_refusal words text place pc reg
    register_13 h = sym (registered ∙ rw (lt-leb pc x h))

    pub register_14 : pc ≤ x → 255 < reg → 14 ≡ register_refusal words text place pc reg
    register_14 h l = sym (registered ∙ rw (le-leb pc x h, lt-leb reg 255 l))

    pub register_0 : pc ≤ x → reg ≤ 255 → 0 ≡ register_refusal words text place pc reg
    register_0 h l = sym (registered ∙ rw (le-leb pc x h, le-leb reg 255 l))

  -- where it is not refused
  pub register_on : register_refusal words text place pc reg ≡ 0 → OnRegister words text place pc reg
  unfolding register_refusal
  register_on =
      on_related {B = ℕ} (λ n m. n ≡ 0 → OnRegister words text place pc reg) (λ n. n) (λ n. n) (within (λ n. n) (λ f. 0) pc reg) (λ x. 0) words text place (λ n h e. absurd (omega arith))
      (λ o. by o (leb pc (length (parts_of o.function.function).code)) (leb reg 255) refl refl)
    where
      by : (o : On words text place) (a b : Bool) → leb pc (length (parts_of o.function.function).code) ≡ a → leb reg 255 ≡ b → ◌≡◌ {A = ℕ} (cond a (cond b 0 14) 13) 0 → OnRegister words text place pc reg
      by o true true p q h = record { on = o; pc_within = leb-true _ _ p; reg_within = leb-true _ _ q }
      by o true false p q h = absurd (omega arith)
      by o false b p q h = absurd (omega arith)

  module _ {A : Type 0} (refuse : ℕ → A) (answer : Function → A) where
    pub registered_refused : (register_refusal words text place pc reg ≡ 0 → ⊥) → on_register refuse answer words text place pc reg ≡ refuse (register_refusal words text place pc reg)
    unfolding register_refusal
    registered_refused =
        on_related (λ a n. (n ≡ 0 → ⊥) → a ≡ refuse n) refuse (λ n. n) (within refuse answer pc reg) (within (λ n. n) (λ f. 0) pc reg) words text place (λ n h z. refl)
        (λ o. by o.function.function (leb pc (length (parts_of o.function.function).code)) (leb reg 255))
      where
        by : (f : Function) (a b : Bool) → (◌≡◌ {A = ℕ} (cond a (cond b 0 14) 13) 0 → ⊥) → cond a (cond b (answer f) (refuse 14)) (refuse 13) ≡ refuse (cond a (cond b 0 14) 13)
        by f true true h = absurd (h refl)
        by f true false h = refl
        by f false b h = refl

    pub registered_answer : (o : OnRegister words text place pc reg) → on_register refuse answer words text place pc reg ≡ answer o.on.function.function
    registered_answer o = on_answer refuse (within refuse answer pc reg) o.on ∙ rw (le-leb pc (length (parts_of o.on.function.function).code) o.pc_within, le-leb reg 255 o.reg_within)

-- ---- what a call answers, by the function that stands there

pub place_refused : {A : Type 0} (refuse : ℕ → A) (answer : Placed → A) (words text : List ℕ) (place : ℕ) (e : Refusal) → number e ≡ place_refusal words text place → refuse (number e) ≡ on_place refuse answer words text place
place_refused refuse answer words text place e h = let k = refusal_above e in rw h (sym (on_refused refuse answer words text place (λ z. omega arith)))

module _ {A : Type 0} (refuse : ℕ → A) (answer : Function → A) (words text : List ℕ) (place : ℕ) where
  pub place_answered : {r : A} → 0 ≡ place_refusal words text place → ((p : Parts) (fs : Functions) → ValidAll fs depth → StandsAt words text place (function_piece (Function.function p fs)) → r ≡ answer (Function.function p fs))
      → r ≡ on_place refuse (λ x. answer x.function) words text place
  place_answered {r} e g =
      let o = place_on words text place (sym e) in
      of_function o (λ f. r ≡ answer f) (λ p fs u v s. g p fs v s) ∙ sym (on_answer refuse (λ x. answer x.function) o)

  module _ (pc reg : ℕ) where
    pub register_refused : (e : Refusal) → number e ≡ register_refusal words text place pc reg → refuse (number e) ≡ on_register refuse answer words text place pc reg
    register_refused e h = let k = refusal_above e in rw h (sym (registered_refused words text place pc reg refuse answer (λ z. omega arith)))

    register_answered : {r : A} → 0 ≡ register_refusal words text place pc reg → ((p : Parts) (fs : Functions) → ValidAll fs depth → StandsAt words text place (function_piece (Function.function p fs)) → r ≡ answer (Function.function p fs))
        → r ≡ on_register refuse answer words text place pc reg
    register_answered {r} e g =
        let o = register_on words text place pc reg (sym e) in
        of_function o.on (λ f. r ≡ answer f) (λ p fs u v s. g p fs v s) ∙ sym (registered_answer words text place pc reg refuse answer o)

-- so, by the lists that were found there
module _ {A : Type 0} (refuse : ℕ → A) (answer : Function → A) {s : Store} {l : Lists} {place : ℕ} {r : A} (e : l.store ≡ s) (found : (p : Parts) (fs : Functions) → ValidAll fs depth → ListsFound place p fs l)
    (g : (p : Parts) (fs : Functions) → ListsAt l p fs → ValidAll fs depth → r ≡ answer (Function.function p fs)) where
  by_lists : (p : Parts) (fs : Functions) → ValidAll fs depth → StandsAt s.words.now s.text.now place (function_piece (Function.function p fs)) → r ≡ answer (Function.function p fs)
  by_lists p fs v h = g p fs (lists_stand p fs e h (found p fs v)) v

  pub place_listed : 0 ≡ place_refusal s.words.now s.text.now place → r ≡ on_place refuse (λ x. answer x.function) s.words.now s.text.now place
  place_listed z = place_answered refuse answer s.words.now s.text.now place z by_lists

  pub register_listed : (pc reg : ℕ) → 0 ≡ register_refusal s.words.now s.text.now place pc reg → r ≡ on_register refuse answer s.words.now s.text.now place pc reg
  register_listed pc reg z = register_answered refuse answer s.words.now s.text.now place pc reg z by_lists
