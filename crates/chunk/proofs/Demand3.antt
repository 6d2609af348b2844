-- The proof of demand 3. Reading a dump finds the tree that was written and ends where the dump ends, whatever stands behind it,
-- so a call that is not refused moves on by the dump, one that is refused stays, and the dumps that are left are those that stand there.
use Rattle.lent.proofs.Prelude.{ℕ, ◌+◌, ◌<◌, ◌≡◌, refl, sym, ap, ◌∙◌, some, List, [], ◌∷◌, ◌++◌, map, append_assoc, append-nil, append_cancel_right, Bool, true, false, cond, and-eq-true_iff, arith, length, take, drop, length-append, take_at, drop_at, drop-drop, leb, eqb, leb-true, eq-eqb, ne_eqb, eqb-true, eqb-false}
use mathlib.Core.Logic.{◌⊎◌, inl, inr}
use Rattle.lent.specs.Memory.{Every}
use Rattle.utf8.specs.Utf8.{is_utf8}
use Rattle.format.specs.Tree.{Function, root_source, stripped, fill}
use Rattle.format.specs.Read.{got, width_of}
use Rattle.format.specs.Write.{dump_chunk}
use Rattle.format.specs.Valid.{depth, most, Name, Holds, HoldOne}
use Rattle.format.specs.Agree.{Agree}
use Rattle.format.specs.Stored.{tree_of}
use Rattle.format.specs.Undump.{Chunk, load_chunk, measured, UndumpLeft, undump_refused, undumped, Refuses, words_used, text_used}
use Rattle.format.specs.declared.Undumped.{Undumped}
use Rattle.format.specs.Dump.{WriteLeft, write_left}
use Rattle.undump.specs.Undump.{undump_left}
use Rattle.chunk.specs.Demand3.{DumpCall, Accepted, bytes_of, dumps_of, end_to_end, dumped_source, UndumpCall, answer_of, left_by, Calls, FindsStripped, Takes, CallOnDump, dumps_left, Session, Demand3}
use Rattle.utf8.proofs.Rows.{by_test}
use Rattle.format.proofs.RoundTrip.{Reads, either, read_back, chunk_law, found_valid, found_filled}
use Rattle.format.proofs.Stored.{tree_holds, holds_tree, holds_one}
use Rattle.format.proofs.Filled.{stripped_not, fill_one}
use Rattle.format.proofs.Measured.{refused_whole, undump_refused_as, measure_then_store}
use Rattle.format.proofs.Calls.{Outcome, Stores, undump_outcome, undump_refused_law, refusal_is, stored_holds, DumpOutcome, dump_positive, dump_outcome}

got_both : {A : Type 0} {a b : A} {s t : List ℕ} → got a s ≡ got b t → (a ≡ b) × (s ≡ t)
got_both e = (cc, cc)

-- ---- a dump

-- what reading finds where a tree was dumped
abbrev chunk_of : DumpCall → Function → Chunk
chunk_of d f = record { size4 = d.size4; root = read_back f d.strip [] d.name }

-- the tree that was dumped, its bytes, and what reading them finds
record Dump (d : DumpCall) : Type 0 where
  tree : Function
  held : tree_of d.words d.text ≡ some tree
  holds : Holds d.words d.text tree
  bytes : bytes_of d ≡ dump_chunk d.strip d.size4 d.name tree
  named : Name d.name
  reads : Reads load_chunk (bytes_of d) (chunk_of d tree)

abbrev wrote : WriteLeft → List ℕ
wrote u = take u.answer.len u.out

-- what its contract says
outcome_of : (d : DumpCall) → DumpOutcome d.name d.strip d.size4 d.out (tree_of d.words d.text) (write_left d.answer d.left)
outcome_of d = rw d.contract (dump_outcome d.words d.text d.name d.strip d.size4 d.out)

dump_of : (d : DumpCall) → Accepted d → Dump d
dump_of d e = by (outcome_of d)
  where
    by : DumpOutcome d.name d.strip d.size4 d.out (tree_of d.words d.text) (write_left d.answer d.left) → Dump d
    by (DumpOutcome.refuses n r l) =
        let p = dump_positive r in
        let z : n ≡ 0 = ap (λ (u : WriteLeft). u.answer.refusal) (sym l) ∙ e in
        absurd (omega arith)
    by (DumpOutcome.dumps s) =
        let h = tree_holds d.words d.text s.tree s.held in
        let n = (and-eq-true_iff (is_utf8 d.name) (leb (length d.name) most)).0 s.named in
        let b : bytes_of d ≡ dump_chunk d.strip d.size4 d.name s.tree = ap wrote s.leaves ∙ take_at (dump_chunk d.strip d.size4 d.name s.tree) _ _ refl in
        record {
          tree = s.tree;
          held = s.held;
          holds = h;
          bytes = b;
          named = n.0;
          reads = rw b (chunk_law s.tree d.strip d.size4 d.name h.valid (rw h.text_is h.text_fits) n.0 (leb-true (length d.name) most n.1));
        }

-- ---- what the words of the statement mean, of any dump call whose store holds f

-- the bytes of a dump are the chunk of the tree
pub bytes_written : (d : DumpCall) → Accepted d → (f : Function) → Holds d.words d.text f → bytes_of d ≡ dump_chunk d.strip d.size4 d.name f
bytes_written d a f h = (dump_of d a).bytes ∙ ap (dump_chunk d.strip d.size4 d.name) (holds_one (dump_of d a).holds h)

-- the source dumped is the root's
pub dumped_source_law : (d : DumpCall) (f : Function) → Holds d.words d.text f → dumped_source d ≡ root_source f d.name
dumped_source_law d f h = rw (holds_tree h)

-- what is found agrees with it in every field, function by function, the debug lists stripped where the dump is
pub found_agrees : (d : DumpCall) (left : UndumpLeft) (name : List ℕ) (found : FindsStripped d left name) → Agree found.tree name (stripped found.tree' d.strip) d.name
found_agrees d left name found = (fill_one found.tree name (stripped found.tree' d.strip) d.name).0 found.one

-- an accepted call is a dump, a refused one none
pub dump_kept : (d : DumpCall) (ds : List DumpCall) → Accepted d → dumps_of (d ∷ ds) ≡ d ∷ dumps_of ds
unfolding dumps_of
dump_kept d ds a = rw (eq-eqb d.answer.refusal 0 a)

pub dump_left_out : (d : DumpCall) (ds : List DumpCall) → (Accepted d → ⊥) → dumps_of (d ∷ ds) ≡ dumps_of ds
unfolding dumps_of
dump_left_out d ds n = rw (ne_eqb d.answer.refusal 0 n)

-- two dumps stand one behind the other
pub two_dumps : (d e : DumpCall) → end_to_end (d ∷ e ∷ []) ≡ bytes_of d ++ bytes_of e
unfolding end_to_end
two_dumps d e = rw append-nil

-- a refused call wrote nothing
pub refused_bytes : (d : DumpCall) → (Accepted d → ⊥) → bytes_of d ≡ []
refused_bytes d e = by (outcome_of d)
  where
    by : DumpOutcome d.name d.strip d.size4 d.out (tree_of d.words d.text) (write_left d.answer d.left) → bytes_of d ≡ []
    by (DumpOutcome.refuses n r l) = ap wrote l
    by (DumpOutcome.dumps s) = absurd (e (ap (λ (u : WriteLeft). u.answer.refusal) s.leaves))

stripped_by : (f : Function) (strip : Bool) → strip ≡ false → stripped f strip ≡ f
stripped_by f strip e = rw e (stripped_not f)

-- ---- measure and store as one call

module _ {bytes : List ℕ} (c : UndumpCall bytes) where
  abbrev m : Undumped
  m = c.measure.answer

  -- store, handed what measure answered
  pub store_is : undump_left c.store.answer c.store.words c.store.text ≡ undumped bytes c.lent.name c.lent.words c.lent.text
  store_is = c.store.contract ∙ rw c.measure.contract (measure_then_store bytes c.lent.name c.lent.words c.lent.text)

  -- where measure is refused, store answers the same
  pub one_answer : answer_of c ≡ c.store.answer
  one_answer =
      by_test (λ b. cond b c.store.answer m ≡ c.store.answer) (eqb m.refusal 0) (λ e. refl)
      (λ e. let n : (measured bytes c.lent.name).refusal ≡ 0 → ⊥ = λ z. eqb-false _ _ e (ap (λ (a : Undumped). a.refusal) c.measure.contract ∙ z) in
      c.measure.contract
      ∙ refused_whole bytes c.lent.name n
      ∙ ap (λ (u : UndumpLeft). u.answer) (sym (store_is ∙ undump_refused_as bytes c.lent.name c.lent.words c.lent.text n)))

  -- so that the two are what undumped says
  pub is_undumped : left_by c ≡ undumped bytes c.lent.name c.lent.words c.lent.text
  is_undumped = ap (λ (a : Undumped). undump_left a c.store.words c.store.text) one_answer ∙ store_is

-- ---- one call

module _ (d : DumpCall) (a : Accepted d) (bytes behind : List ℕ) (is : bytes ≡ bytes_of d ++ behind) (c : UndumpCall bytes) where
  abbrev dump : Dump d
  dump = dump_of d a

  abbrev found : Chunk
  found = chunk_of d dump.tree

  reads : load_chunk bytes ≡ got found behind
  reads = rw is (dump.reads.run behind)

  -- what its contract says
  outcome : Outcome bytes c.lent (got found behind) (left_by c)
  outcome = rw (is_undumped c, ← reads) (undump_outcome bytes c.lent)

  abbrev Stored : Type 0
  Stored = Stores bytes c.lent (got found behind) (left_by c)

  read_is : Stored → (answer_of c).read ≡ length (bytes_of d)
  read_is s =
      let e : s.rest ≡ behind = sym (got_both s.reads).1 in
      let n : length bytes ≡ length (bytes_of d) + length behind = ap length is ∙ length-append (bytes_of d) behind in
      ap (λ (u : UndumpLeft). u.answer.read) s.leaves ∙ rw e (omega arith)

  width_is : Stored → (answer_of c).width ≡ width_of d.size4
  width_is s = ap (λ (u : UndumpLeft). u.answer.width) s.leaves ∙ ap (λ (x : Chunk). width_of x.size4) (sym (got_both s.reads).0)

  -- under a chunk name that an empty root source stands for
  finds_under : Stored → (name : List ℕ) → (root_source dump.tree d.name ≡ [] → name ≡ root_source dump.tree d.name) → FindsStripped d (left_by c) name
  finds_under s name h =
      let e : s.read.root ≡ found.root = ap (λ (x : Chunk). x.root) (sym (got_both s.reads).0) in
      record {
        tree = s.read.root;
        tree' = dump.tree;
        holds = stored_holds bytes c.lent (left_by c) s (rw e (found_valid dump.tree depth d.strip [] d.name dump.holds.valid dump.named));
        holds' = dump.holds;
        one = rw e (found_filled dump.tree d.strip [] d.name name h);
      }

  under : (¬ (dumped_source d ≡ [])) ⊎ (c.lent.name ≡ []) → root_source dump.tree d.name ≡ [] → c.lent.name ≡ root_source dump.tree d.name
  under (inl h) e = absurd (h (dumped_source_law d dump.tree dump.holds ∙ e))
  under (inr h) e = h ∙ sym e

  takes_law : Stored → Takes d c.lent.name (left_by c)
  takes_law s =
      record {
        read = read_is s;
        width = width_is s;
        finds = λ e h. one_tree e (finds_under s c.lent.name (under h));
        finds_stripped = λ h. finds_under s c.lent.name (under h);
        finds_unnamed = finds_under s [] (λ h. sym h);
      }
    where
      one_tree : d.strip ≡ false → FindsStripped d (left_by c) c.lent.name → HoldOne (words_used (left_by c)) (text_used (left_by c)) c.lent.name d.words d.text d.name
      one_tree e f = record { tree = f.tree; tree' = f.tree'; holds = f.holds; holds' = f.holds'; one = f.one ∙ rw (stripped_by f.tree' d.strip e) }

  -- a call that is not refused stores; one that is, is refused by that number
  stores_of : Outcome bytes c.lent (got found behind) (left_by c) → (answer_of c).refusal ≡ 0 → Stored
  stores_of (Outcome.refuses n r l) e =
      let p = nonzero r in
      let z : n ≡ 0 = ap (λ (u : UndumpLeft). u.answer.refusal) (sym l) ∙ e in
      absurd (omega arith)
    where
      nonzero : {m : ℕ} → Refuses c.lent (got found behind) m → 0 < m
      nonzero (Refuses.bad_name h) = omega arith
      nonzero (Refuses.few_words h k) = omega arith
      nonzero (Refuses.few_text h k l) = omega arith
  stores_of (Outcome.stores s) e = s

  refuses_of : Outcome bytes c.lent (got found behind) (left_by c) → (n : ℕ) → 0 < n → (answer_of c).refusal ≡ n → Refuses c.lent (got found behind) n
  refuses_of (Outcome.refuses m r l) n h e = let i : m ≡ n = ap (λ (u : UndumpLeft). u.answer.refusal) (sym l) ∙ e in rw i at r
  refuses_of (Outcome.stores s) n h e = let z : (answer_of c).refusal ≡ 0 = ap (λ (u : UndumpLeft). u.answer.refusal) s.leaves in absurd (omega arith)

  refusal_of : (n : ℕ) → Refuses c.lent (got found behind) n → (answer_of c).refusal ≡ n
  refusal_of n r = ap (λ (u : UndumpLeft). u.answer.refusal) (is_undumped c) ∙ refusal_is bytes c.lent (rw reads r)

  pub untouched_law : (n : ℕ) → 0 < n → (answer_of c).refusal ≡ n → left_by c ≡ undump_refused n c.lent.words c.lent.text
  untouched_law n h e = is_undumped c ∙ undump_refused_law bytes c.lent n h (ap (λ (u : UndumpLeft). u.answer.refusal) (sym (is_undumped c)) ∙ e)

  step_law : CallOnDump d bytes c.lent (left_by c)
  step_law =
      record {
        chunk = found;
        rest = behind;
        begins = sym is;
        reads = reads;
        refused = λ n h. (refuses_of outcome n h, refusal_of n);
        untouched = untouched_law;
        takes = λ e. takes_law (stores_of outcome e);
      }

-- ---- all calls

-- the next call begins at the next dump, or, after a refusal, at the same
moved_on : (d : DumpCall) → Accepted d → (ds : List DumpCall) (behind bytes : List ℕ) → bytes ≡ bytes_of d ++ (end_to_end ds ++ behind) → (c : UndumpCall bytes)
    → drop (answer_of c).read bytes ≡ end_to_end (dumps_left (answer_of c) d ds) ++ behind
unfolding end_to_end
moved_on d a ds behind bytes b c = by (eqb (answer_of c).refusal 0) refl
  where
    by : (none : Bool) → eqb (answer_of c).refusal 0 ≡ none → drop (answer_of c).read bytes ≡ end_to_end (cond none ds (d ∷ ds)) ++ behind
    by true e =
        let read : (answer_of c).read ≡ length (bytes_of d) = ((step_law d a bytes (end_to_end ds ++ behind) b c).takes (eqb-true _ _ e)).read in
        rw (read, b) (drop_at (bytes_of d) (end_to_end ds ++ behind) _ refl)
    by false e =
        let some : 0 < (answer_of c).refusal = omega (arith, eqb-false (answer_of c).refusal 0 e) in
        let read : (answer_of c).read ≡ 0 = ap (λ (u : UndumpLeft). u.answer.read) (untouched_law d a bytes (end_to_end ds ++ behind) b c _ some refl) in
        rw (read, b) (sym (append_assoc (bytes_of d) (end_to_end ds) behind))

session_law : {slice : List ℕ} {place : ℕ} (cs : Calls slice place) (ds : List DumpCall) (behind : List ℕ) → Every Accepted ds → drop place slice ≡ end_to_end ds ++ behind → Session cs ds
unfolding Session end_to_end Every
session_law Calls.done ds behind a e = tt
session_law (Calls.call c cs) [] behind a e = tt
session_law {slice} {place} (Calls.call c cs) (d ∷ ds) behind a e =
    let b : drop place slice ≡ bytes_of d ++ (end_to_end ds ++ behind) = e ∙ append_assoc (bytes_of d) (end_to_end ds) behind in (
      step_law d a.0 (drop place slice) (end_to_end ds ++ behind) b c,
      session_law cs _ behind (either (Every Accepted) (eqb (answer_of c).refusal 0) a.1 a) (sym (drop-drop _ place slice) ∙ moved_on d a.0 ds behind (drop place slice) b c),
    )

-- ---- refused dump calls

dumps_accepted : (ds : List DumpCall) → Every Accepted (dumps_of ds)
unfolding dumps_of Every
dumps_accepted [] = tt
dumps_accepted (d ∷ ds) =
    by_test (λ b. Every Accepted (cond b (d ∷ dumps_of ds) (dumps_of ds))) (eqb d.answer.refusal 0) (λ e. (eqb-true _ _ e, dumps_accepted ds)) (λ e. dumps_accepted ds)

dumps_bytes : (ds : List DumpCall) → end_to_end (dumps_of ds) ≡ end_to_end ds
unfolding dumps_of end_to_end
dumps_bytes [] = refl
dumps_bytes (d ∷ ds) =
    by_test (λ b. end_to_end (cond b (d ∷ dumps_of ds) (dumps_of ds)) ≡ bytes_of d ++ end_to_end ds) (eqb d.answer.refusal 0)
    (λ e. rw (dumps_bytes ds)) (λ e. rw (dumps_bytes ds, refused_bytes d (eqb-false _ _ e)))

-- ---- what the bytes tell

-- two dumps that begin alike are read alike
alike : (d e : DumpCall) (a : Accepted d) (b : Accepted e) (s t : List ℕ) → bytes_of d ++ s ≡ bytes_of e ++ t
    → (chunk_of d (dump_of d a).tree ≡ chunk_of e (dump_of e b).tree) × (s ≡ t)
alike d e a b s t h = got_both (sym ((dump_of d a).reads.run s) ∙ ap load_chunk h ∙ (dump_of e b).reads.run t)

-- under the empty name the tree read is the tree dumped
refilled : (d : DumpCall) (a : Accepted d) → d.strip ≡ false → fill (read_back (dump_of d a).tree d.strip [] d.name) [] ≡ fill (dump_of d a).tree d.name
refilled d a s = found_filled (dump_of d a).tree d.strip [] d.name [] (λ h. sym h) ∙ rw (stripped_by (dump_of d a).tree d.strip s)

same_width_law : (d e : DumpCall) → Accepted d → Accepted e → bytes_of d ≡ bytes_of e → d.size4 ≡ e.size4
same_width_law d e a b h = ap (λ (x : Chunk). x.size4) (alike d e a b [] [] (ap (λ (l : List ℕ). l ++ []) h)).0

differ_law : (d e : DumpCall) → Accepted d → Accepted e → d.strip ≡ false → e.strip ≡ false → bytes_of d ≡ bytes_of e → HoldOne d.words d.text d.name e.words e.text e.name
differ_law d e a b sd se h =
    record {
      tree = (dump_of d a).tree;
      tree' = (dump_of e b).tree;
      holds = (dump_of d a).holds;
      holds' = (dump_of e b).holds;
      one = sym (refilled d a sd) ∙ ap (λ (x : Chunk). fill x.root []) (alike d e a b [] [] (ap (λ (l : List ℕ). l ++ []) h)).0 ∙ refilled e b se;
    }

none_begins_law : (d e : DumpCall) (more : List ℕ) → Accepted d → Accepted e → bytes_of d ++ more ≡ bytes_of e → bytes_of d ≡ bytes_of e
none_begins_law d e more a b h =
    let m : more ≡ [] = (alike d e a b more [] (h ∙ sym (append-nil _))).1 in
    sym (append-nil _) ∙ ap (λ (t : List ℕ). bytes_of d ++ t) (sym m) ∙ h

-- a dump is not empty: it begins with the header
some_bytes : (d : DumpCall) → Accepted d → (t : List ℕ) → [] ≡ bytes_of d ++ t → ⊥
some_bytes d a t h = let h' = rw (dump_of d a).bytes at h in let z : ◌≡◌ {A = ℕ} 0 1 = cc in omega arith

same_law : (ds es : List DumpCall) → Every Accepted ds → Every Accepted es → end_to_end ds ≡ end_to_end es → map bytes_of ds ≡ map bytes_of es
unfolding end_to_end Every
same_law [] [] a b h = refl
same_law [] (e ∷ es) a b h = absurd (some_bytes e b.0 _ h)
same_law (d ∷ ds) [] a b h = absurd (some_bytes d a.0 _ (sym h))
same_law (d ∷ ds) (e ∷ es) a b h =
    let t : end_to_end ds ≡ end_to_end es = (alike d e a.0 b.0 (end_to_end ds) (end_to_end es) h).1 in
    cc (same_law ds es a.1 b.1 t, append_cancel_right (bytes_of d) (bytes_of e) (end_to_end ds) (h ∙ rw t))

pub demand3 : Demand3
demand3 =
    record {
      session = λ ds behind cs. session_law cs (dumps_of ds) behind (dumps_accepted ds) (rw dumps_bytes);
      same_width = same_width_law;
      differ = differ_law;
      none_begins = none_begins_law;
      same_dumps = λ ds es h. same_law (dumps_of ds) (dumps_of es) (dumps_accepted ds) (dumps_accepted es) (dumps_bytes ds ∙ h ∙ sym (dumps_bytes es));
    }

-- ---- the statement put to use

module _ {slice : List ℕ} (place : ℕ) (c : UndumpCall (drop place slice)) (cs : Calls slice (place + (answer_of c).read)) (d : DumpCall) (ds : List DumpCall) where
  -- behind a call that is not refused stands the next dump, behind one that is the same
  pub session_next : (answer_of c).refusal ≡ 0 → Session (Calls.call {place = place} c cs) (d ∷ ds) → Session cs ds
  unfolding Session
  session_next h s = rw (eq-eqb _ _ h) at s.1

  pub session_again : ((answer_of c).refusal ≡ 0 → ⊥) → Session (Calls.call {place = place} c cs) (d ∷ ds) → Session cs (d ∷ ds)
  unfolding Session
  session_again n s = rw (ne_eqb _ _ n) at s.1

module _ (d e : DumpCall) (a : Accepted d) (b : Accepted e) (behind : List ℕ) where
  abbrev slice : List ℕ
  slice = end_to_end (d ∷ e ∷ []) ++ behind

  both_kept : dumps_of (d ∷ e ∷ []) ≡ d ∷ e ∷ []
  unfolding dumps_of
  both_kept = dump_kept d (e ∷ []) a ∙ ap (λ (l : List DumpCall). d ∷ l) (dump_kept e [] b)

  module _ (c₁ : UndumpCall (drop 0 slice)) (c₂ : UndumpCall (drop (0 + (answer_of c₁).read) slice)) (c₃ : UndumpCall (drop (0 + (answer_of c₁).read + (answer_of c₂).read) slice)) where
    abbrev third : Calls slice (0 + (answer_of c₁).read + (answer_of c₂).read)
    third = Calls.call c₃ Calls.done

    abbrev second : Calls slice (0 + (answer_of c₁).read)
    second = Calls.call c₂ third

    abbrev first : Calls slice 0
    first = Calls.call c₁ second

    -- of two dumps, with a refused call between: the call after it finds the second
    pub second_found : (answer_of c₁).refusal ≡ 0 → ((answer_of c₂).refusal ≡ 0 → ⊥) → (answer_of c₃).refusal ≡ 0 → Takes e c₃.lent.name (left_by c₃)
    unfolding Session
    second_found h n k =
        let all : Session first (d ∷ e ∷ []) = rw both_kept at (demand3.session (d ∷ e ∷ []) behind first) in
        let last : Session third (e ∷ []) = session_again _ c₂ third e [] n (session_next _ c₁ second d (e ∷ []) h all) in
        last.0.takes k
