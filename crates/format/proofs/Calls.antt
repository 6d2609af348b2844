-- What undump and dump answer, case by case: when each refuses, and what a call that does not leaves.
use Rattle.lent.proofs.Prelude.{ℕ, ◌-◌, ◌≤◌, ◌<◌, min, ◌≡◌, refl, sym, ap, ◌∙◌, Option, none, some, List, Bool, true, false, cond, arith, length, take_at, leb, le-leb, lt-leb, leb-true, leb-false}
use Rattle.lent.specs.Memory.{Bytes}
use Rattle.format.specs.Tree.{Function}
use Rattle.format.specs.Read.{Read, got, refused}
use Rattle.format.specs.Write.{dump_chunk}
use Rattle.format.specs.Store.{words_of, text_of}
use Rattle.format.specs.Valid.{depth, most, Valid, Holds}
use Rattle.format.specs.Stored.{tree_of}
use Rattle.format.specs.Undump.{Chunk, load_chunk, UndumpLeft, undump_refused, name_ok, fits, over, store_left, undumped_by, undumped, UndumpLent, Refuses, words_used, text_used}
use Rattle.format.specs.Dump.{WriteLeft, write_refused, written, on_tree, dumped}
use Rattle.format.proofs.Loaded.{loaded_valid, load_refuses}

-- ---- undump

-- what a call answers and leaves
abbrev undump_left : List ℕ → UndumpLent → UndumpLeft
undump_left chunk c = undumped chunk c.name c.words c.text

-- what a call leaves that is not refused, and that its tree fits
pub record Stores (chunk : List ℕ) (c : UndumpLent) (x : Read Chunk) (left : UndumpLeft) : Type 0 where
  pub named : name_ok c.name ≡ true
  pub read : Chunk
  pub rest : List ℕ
  pub reads : x ≡ got read rest
  pub words_fit : length (words_of read.root) ≤ min (length c.words) most
  pub text_fits : length (text_of read.root) ≤ min (length c.text) most
  pub leaves : left ≡ store_left read (length chunk - length rest) c.words c.text

-- a call is refused, by a number and with nothing written, or stores
pub data Outcome (chunk : List ℕ) (c : UndumpLent) (x : Read Chunk) (left : UndumpLeft) : Type 0 where
  refuses : (n : ℕ) → Refuses c x n → left ≡ undump_refused n c.words c.text → Outcome chunk c x left
  stores : Stores chunk c x left → Outcome chunk c x left

undumped_by_law : (chunk : List ℕ) (c : UndumpLent) (x : Read Chunk)
    → Outcome chunk c x (cond (name_ok c.name) (undumped_by chunk x c.words c.text) (undump_refused 1 c.words c.text))
undumped_by_law chunk c x = named x (name_ok c.name) refl
  where
    fitting : (f : Chunk) (rest : List ℕ) → name_ok c.name ≡ true
        → (w t : Bool) → fits (length (words_of f.root)) c.words ≡ w → fits (length (text_of f.root)) c.text ≡ t
        → Outcome chunk c (got f rest)
        (cond w (cond t (store_left f (length chunk - length rest) c.words c.text) (undump_refused 9 c.words c.text)) (undump_refused 8 c.words c.text))
    fitting f rest e false t ew et = Outcome.refuses 8 (Refuses.few_words e (leb-false _ _ ew)) refl
    fitting f rest e true false ew et = Outcome.refuses 9 (Refuses.few_text e (leb-true _ _ ew) (leb-false _ _ et)) refl
    fitting f rest e true true ew et =
        Outcome.stores (record { named = e; read = f; rest = rest; reads = refl; words_fit = leb-true _ _ ew; text_fits = leb-true _ _ et; leaves = refl })

    named : (x : Read Chunk) (b : Bool) → name_ok c.name ≡ b → Outcome chunk c x (cond b (undumped_by chunk x c.words c.text) (undump_refused 1 c.words c.text))
    named x false e = Outcome.refuses 1 (Refuses.bad_name e) refl
    named (refused n) true e = Outcome.refuses n (Refuses.reading e) refl
    named (got f rest) true e = fitting f rest e _ _ refl refl

pub undump_outcome : (chunk : List ℕ) (c : UndumpLent) → Outcome chunk c (load_chunk chunk) (undump_left chunk c)
unfolding undumped
undump_outcome chunk c = undumped_by_law chunk c (load_chunk chunk)

-- a refusal under its condition
pub refusal_is : (chunk : List ℕ) (c : UndumpLent) {n : ℕ} → Refuses c (load_chunk chunk) n → (undump_left chunk c).answer.refusal ≡ n
unfolding undumped
refusal_is chunk c r = by (load_chunk chunk) r
  where
    by : {n : ℕ} (x : Read Chunk) → Refuses c x n → (cond (name_ok c.name) (undumped_by chunk x c.words c.text) (undump_refused 1 c.words c.text)).answer.refusal ≡ n
    by x (Refuses.bad_name e) = rw e
    by (refused n) (Refuses.reading e) = rw e
    by (got f rest) (Refuses.few_words e h) = rw (e, lt-leb _ _ h)
    by (got f rest) (Refuses.few_text e h k) = rw (e, le-leb _ _ h, lt-leb _ _ k)

-- ---- the store that a call leaves is that of the tree that it read

module _ (chunk : List ℕ) (c : UndumpLent) (left : UndumpLeft) where
  pub words_left : {x : Read Chunk} (s : Stores chunk c x left) → words_used left ≡ words_of s.read.root
  words_left s = rw s.leaves (take_at (words_of s.read.root) _ _ refl)

  pub text_left : {x : Read Chunk} (s : Stores chunk c x left) → text_used left ≡ text_of s.read.root
  text_left s = rw s.leaves (take_at (text_of s.read.root) _ _ refl)

  pub stored_holds : {x : Read Chunk} (s : Stores chunk c x left) → Valid s.read.root depth → Holds (words_used left) (text_used left) s.read.root
  stored_holds s v =
      rw (words_left s, text_left s)
      (record { valid = v; words_are = refl; text_is = refl; words_fit = omega (arith, s.words_fit); text_fits = omega (arith, s.text_fits) })

-- ==== the statement: on refusal the number, zeros beside it, nothing written; else the store left is well formed

pub undump_refused_law : (chunk : List ℕ) (c : UndumpLent) (n : ℕ) → 0 < n → (undump_left chunk c).answer.refusal ≡ n → undump_left chunk c ≡ undump_refused n c.words c.text
undump_refused_law chunk c n h e = by (undump_outcome chunk c)
  where
    by : Outcome chunk c (load_chunk chunk) (undump_left chunk c) → undump_left chunk c ≡ undump_refused n c.words c.text
    by (Outcome.refuses m r l) = let i : m ≡ n = ap (λ (u : UndumpLeft). u.answer.refusal) (sym l) ∙ e in rw i at l
    by (Outcome.stores s) = let z : (undump_left chunk c).answer.refusal ≡ 0 = rw s.leaves in absurd (omega arith)

pub record WellFormed (words text : List ℕ) : Type 0 where
  pub tree : Function
  pub holds : Holds words text tree

pub undump_well_formed : (chunk : List ℕ) (c : UndumpLent) → Bytes chunk → (undump_left chunk c).answer.refusal ≡ 0
    → WellFormed (words_used (undump_left chunk c)) (text_used (undump_left chunk c))
undump_well_formed chunk c h e = by (undump_outcome chunk c)
  where
    positive : (n : ℕ) (x : Read Chunk) → load_chunk chunk ≡ x → Refuses c x n → 0 < n
    positive n x q (Refuses.bad_name k) = omega arith
    positive n x q (Refuses.reading k) = let r = load_refuses chunk h n q in omega arith
    positive n x q (Refuses.few_words k l) = omega arith
    positive n x q (Refuses.few_text k l m) = omega arith

    by : Outcome chunk c (load_chunk chunk) (undump_left chunk c) → WellFormed (words_used (undump_left chunk c)) (text_used (undump_left chunk c))
    by (Outcome.refuses n r l) =
        let p = positive n (load_chunk chunk) refl r in
        let z : n ≡ 0 = ap (λ (u : UndumpLeft). u.answer.refusal) (sym l) ∙ e in
        absurd (omega arith)
    by (Outcome.stores s) = record { tree = s.read.root; holds = stored_holds chunk c (undump_left chunk c) s (loaded_valid chunk h s.read s.rest s.reads) }

-- ---- dump

-- when refusal n is given by a call of dump, whose store holds x: 1, 10, 11
pub data DumpRefuses (name : List ℕ) (strip size4 : Bool) (out : List ℕ) : Option Function → ℕ → Type 0 where
  bad_name : {x : Option Function} → name_ok name ≡ false → DumpRefuses name strip size4 out x 1
  not_well_formed : name_ok name ≡ true → DumpRefuses name strip size4 out none 10
  too_long : {f : Function} → name_ok name ≡ true → length out < length (dump_chunk strip size4 name f) → DumpRefuses name strip size4 out (some f) 11

pub dump_positive : {name : List ℕ} {strip size4 : Bool} {out : List ℕ} {x : Option Function} {n : ℕ} → DumpRefuses name strip size4 out x n → 0 < n
dump_positive (DumpRefuses.bad_name h) = omega arith
dump_positive (DumpRefuses.not_well_formed h) = omega arith
dump_positive (DumpRefuses.too_long h k) = omega arith

pub record DumpAccepted (name : List ℕ) (strip size4 : Bool) (out : List ℕ) (x : Option Function) (left : WriteLeft) : Type 0 where
  pub named : name_ok name ≡ true
  pub tree : Function
  pub held : x ≡ some tree
  pub fits : length (dump_chunk strip size4 name tree) ≤ length out
  pub leaves : left ≡ record { answer = record { refusal = 0; len = length (dump_chunk strip size4 name tree) }; out = over (dump_chunk strip size4 name tree) out }

pub data DumpOutcome (name : List ℕ) (strip size4 : Bool) (out : List ℕ) (x : Option Function) (left : WriteLeft) : Type 0 where
  refuses : (n : ℕ) → DumpRefuses name strip size4 out x n → left ≡ write_refused n out → DumpOutcome name strip size4 out x left
  dumps : DumpAccepted name strip size4 out x left → DumpOutcome name strip size4 out x left

dumped_by : (name : List ℕ) (strip size4 : Bool) (out : List ℕ) (x : Option Function)
    → DumpOutcome name strip size4 out x (cond (name_ok name) (on_tree (λ n. write_refused n out) (λ f. written (dump_chunk strip size4 name f) out) x) (write_refused 1 out))
dumped_by name strip size4 out x = named x (name_ok name) refl
  where
    fitting : (f : Function) → name_ok name ≡ true → (b : Bool) → leb (length (dump_chunk strip size4 name f)) (length out) ≡ b
        → DumpOutcome name strip size4 out (some f)
        (cond b (record { answer = record { refusal = 0; len = length (dump_chunk strip size4 name f) }; out = over (dump_chunk strip size4 name f) out }) (write_refused 11 out))
    fitting f e false h = DumpOutcome.refuses 11 (DumpRefuses.too_long e (leb-false _ _ h)) refl
    fitting f e true h = DumpOutcome.dumps (record { named = e; tree = f; held = refl; fits = leb-true _ _ h; leaves = refl })

    named : (x : Option Function) (b : Bool) → name_ok name ≡ b
        → DumpOutcome name strip size4 out x (cond b (on_tree (λ n. write_refused n out) (λ f. written (dump_chunk strip size4 name f) out) x) (write_refused 1 out))
    named x false e = DumpOutcome.refuses 1 (DumpRefuses.bad_name e) refl
    named none true e = DumpOutcome.refuses 10 (DumpRefuses.not_well_formed e) refl
    named (some f) true e = fitting f e _ refl

pub dump_outcome : (words text name : List ℕ) (strip size4 : Bool) (out : List ℕ) → DumpOutcome name strip size4 out (tree_of words text) (dumped words text name strip size4 out)
unfolding dumped
dump_outcome words text name strip size4 out = dumped_by name strip size4 out (tree_of words text)
