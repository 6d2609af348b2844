-- The lookup: where the locals stand, what their records lead to, and what the call leaves.
use Rattle.std.specs.Prelude.{Option, Result, Ok, Err}
use Rattle.std.specs.declared.ops.ControlFlow.{ControlFlow}
use Rattle.std.specs.declared.ops.ControlFlow.TheVariants.{Continue, Break}
use Rattle.std.specs.Simd.{first_chunks}
use Rattle.lent.proofs.Prelude.{ℕ, ◌+◌, ◌*◌, ◌/◌, ◌≤◌, ◌<◌, ◌%◌, ◌^◌, min, ◌≡◌, refl, sym, ap, ◌∙◌, List, [], ◌∷◌, ◌++◌, Bool, true, false, cond, arith, length, take, drop, length-take-le, length-drop, get_or, leb, eq-eqb, ne_eqb, le-leb, lt-leb, leb-true}
use Rattle.lent.specs.Memory.{far, Puts}
use Rattle.format.specs.Tree.{Local, Parts, Function, Functions}
use Rattle.format.specs.Store.{word, ◌⊕◌, string, pieces, list, ints, local_piece, function_piece}
use Rattle.format.specs.Stored.{part}
use Rattle.format.specs.Undump.{over}
use Rattle.format.specs.Refusal.{number}
use Rattle.format.specs.declared.Refusal.{Refusal}
use Rattle.format.specs.declared.Span.{Span}
use Rattle.format.specs.Dump.{write_refused}
use Rattle.format.specs.Valid.{depth, ValidAll}
use Rattle.format.proofs.Stored.{here_left, here_part}
use Rattle.proto.specs.Walk.{Stands, Skips, Past, to_lines, to_locals, StandsAt}
use Rattle.proto.specs.Lists.{ListsFound}
use Rattle.proto.specs.declared.lists.Lists.{Lists}
use Rattle.proto.specs.Places.{place_refusal}
use Rattle.proto.proofs.Sublists.{here_length, here_item, here_get}
use Rattle.proto.proofs.Pieces.{same_sym, same_assoc, function_debug, stands_same, stands_left, stands_right, pieces_words}
use Rattle.proto.proofs.Steady.{locals_steady}
use Rattle.proto.proofs.Items.{somewhere, list_count, locals_stand}
use Rattle.proto.proofs.Sources.{On, place_on, on_answer, on_related}
use Rattle.debug_info.specs.declared.answer.Named.{Named}
use Rattle.debug_info.specs.declared.name.Known.{Known}
use Rattle.debug_info.specs.Names.{Object, active_local, get_local_name}
use Rattle.debug_info.specs.Known.{object_of}
use Rattle.debug_info.specs.Calls.{NameLeft, name_left, name_refused, named_by, named, local_named}
use Rattle.debug_info.proofs.Calls.{of_function, place_refused}
use Rattle.local_records.specs.declared.record.LocalRecord.{LocalRecord}
use Rattle.debug_info.specs.Look.{look, after}
use Rattle.debug_info.proofs.Lists.{active_step}
use Rattle.local_records.specs.Records.{record_at, records_at, records_of, records_filled, look_at, text_named, active_in}
use Rattle.local_records.proofs.Records.{records_fours}
use Rattle.local_records.specs.Lookup.{locals_of, locals_at, LookupLeft, lookup_left, with_records, local_named_in, no_locals, locals_for}

-- ---- what the records of locals lead to

module _ {words text : List ℕ} where
  record_is : {at to : ℕ} (v : Local) → Stands words text at to (local_piece v) → record_at words at ≡ record { place = to; len = length v.name; start = v.start; end = v.end }
  record_is {at} {to} v h =
      let l = to ∷ length v.name ∷ v.start ∷ v.end ∷ [] in
      rw (here_get to _ h.in_words, here_item l 1 (omega arith) h.in_words, here_item l 2 (omega arith) h.in_words, here_item l 3 (omega arith) h.in_words)

  pub records_lead : (l : List Local) {at to : ℕ} (n pc : ℕ) → Stands words text at to (pieces local_piece l) → object_of text (active_in (records_at words at (length l)) n pc) ≡ active_local l n pc
  unfolding active_in active_local records_at pieces
  records_lead [] n pc h = refl
  records_lead (v ∷ l) {at} {to} n pc h =
      let s = stands_left (local_piece v) (pieces local_piece l) h in
      let t = stands_right (local_piece v) (pieces local_piece l) h in
      let e : part text to (length v.name) ≡ v.name = here_part v.name (stands_left (string v.name) (word v.start ⊕ word v.end) s).in_text in
      ap (λ (r : LocalRecord). object_of text (after (look_at r n pc) (λ found. found) (λ m. active_in (records_at words (at + 4) (length l)) m pc))) (record_is v s)
      ∙ by (λ m. records_lead l m pc t) (look (text_named to (length v.name)) v.start v.end n pc)
      ∙ active_step text (text_named to (length v.name)) v (rw e) l n pc
    where
      by : ((m : ℕ) → object_of text (active_in (records_at words (at + 4) (length l)) m pc) ≡ active_local l m pc) → (a : ControlFlow (Option Known) ℕ)
          → object_of text (after a (λ found. found) (λ m. active_in (records_at words (at + 4) (length l)) m pc)) ≡ after a (object_of text) (λ m. active_local l m pc)
      by more (Break found) = refl
      by more (Continue m) = more m

-- ---- where the locals stand

-- at r, behind which locals_at is, their count first
pub record LocalsFrom (words text : List ℕ) (place : ℕ) (f : Function) (r : ℕ) : Type 0 where
  pub behind : r + 1 ≡ locals_at place f
  pub stand : StandsAt words text r (list local_piece (locals_of f))

-- the place of that count
abbrev to_list : ℕ → Function → ℕ
to_list place (Function.function p fs) = place + length ((to_locals p fs).words 0)

module _ {words text : List ℕ} {place : ℕ} where
  locals_from : {to r : ℕ} (p : Parts) (fs : Functions) → Stands words text place to (function_piece (Function.function p fs)) → Past words (to_locals p fs) place r → LocalsFrom words text place (Function.function p fs) r
  locals_from {to} {r} p fs h w =
      let q = list local_piece p.debug.locals ⊕ list string p.debug.upvalues in
      let s : Stands words text place to (to_locals p fs ⊕ q) = stands_same (same_sym (same_assoc (to_lines p fs) (ints p.debug.lines) q)) (stands_same (function_debug p fs) h) in
      let e : r ≡ place + length ((to_locals p fs).words to) = w.past to (stands_left (to_locals p fs) q s).in_words in
      record { behind = rw (e, (locals_steady p fs).steady to 0); stand = somewhere (locals_stand p fs h w) }

  module _ (o : On words text place) where
    pub walked_from : {s : Lists} → s.store.words.now ≡ words → ((p : Parts) (fs : Functions) → ValidAll fs depth → ListsFound place p fs s) → LocalsFrom words text place o.function.function s.locals
    walked_from {s} e w = of_function o (λ f. LocalsFrom words text place f s.locals) (λ p fs u v h. locals_from p fs h.stands (rw e at (w p fs v).locals))

    pub locals_there : LocalsFrom words text place o.function.function (to_list place o.function.function)
    locals_there = of_function o (λ f. LocalsFrom words text place f (to_list place f)) (λ p fs u v h. locals_from p fs h.stands (record { past = λ to g. ap (λ (k : ℕ). place + k) ((locals_steady p fs).steady 0 to) }))

    -- so their records lead to what they do
    pub locals_lead : {at m : ℕ} (n pc : ℕ) → at ≡ locals_at place o.function.function → m ≡ length (locals_of o.function.function)
        → object_of text (active_in (records_at words at m) n pc) ≡ active_local (locals_of o.function.function) n pc
    locals_lead n pc d e =
        let l = locals_of o.function.function in
        let x = locals_there in
        rw (d, e, ← x.behind) (records_lead l n pc (stands_right (word (length l)) (pieces local_piece l) x.stand.stands))

-- ---- before the records are filled

module _ (words text : List ℕ) (place n pc records space : ℕ) where
  abbrev choose : Function → Result Span ℕ
  choose f =
      cond (leb (length (locals_of f)) records)
      (cond (leb (length (active_local (locals_of f) n pc).name) space) (Ok (record { start = locals_at place f; len = 4 * length (locals_of f) })) (no_locals 11)) (no_locals 8)

  -- the place is refused
  pub for_refused : (e : Refusal) → number e ≡ place_refusal words text place → no_locals (number e) ≡ locals_for words text place n pc records space
  unfolding locals_for
  for_refused e h = place_refused no_locals (λ x. choose x.function) words text place e h

  module _ (z : 0 ≡ place_refusal words text place) (lists : Lists) {m : ℕ} (q : lists.store.words.now ≡ words) (w : (p : Parts) (fs : Functions) → ValidAll fs depth → ListsFound place p fs lists) (c : m ≡ get_or words lists.locals 0) where
    abbrev o : On words text place
    o = place_on words text place (sym z)

    from : LocalsFrom words text place o.function.function lists.locals
    from = walked_from o q w

    counted : m ≡ length (locals_of o.function.function)
    counted = c ∙ list_count local_piece (locals_of o.function.function) from.stand.stands

    chosen : locals_for words text place n pc records space ≡ choose o.function.function
    unfolding locals_for
    chosen = on_answer no_locals (λ x. choose x.function) o

    -- there are too few records
    pub for_8 : records < m → no_locals 8 ≡ locals_for words text place n pc records space
    for_8 k = sym (chosen ∙ rw (lt-leb (length (locals_of o.function.function)) records (omega (arith, counted))))

    module _ (k : m ≤ records) (s : space < far) (v : Option Known) (a : (text : List ℕ) (l : List Local) → StandsAt words text lists.locals (list local_piece l) → object_of text v ≡ active_local l n pc) {x : ℕ} (p : Puts (object_of text v).name 0 [] x []) where
      name_len : x ≡ min (length (active_local (locals_of o.function.function) n pc).name) far
      name_len =
          let i : (object_of text v).name ≡ (active_local (locals_of o.function.function) n pc).name = ap (λ (y : Object). y.name) (a text (locals_of o.function.function) from.stand) in
          (p.puts (omega arith) (omega arith)).0 ∙ rw i (omega arith)

      -- there is too little space
      pub for_11 : space < x → no_locals 11 ≡ locals_for words text place n pc records space
      for_11 l =
          let q = lt-leb (length (active_local (locals_of o.function.function) n pc).name) space (omega (arith, name_len)) in
          sym (chosen ∙ rw (le-leb (length (locals_of o.function.function)) records (omega (arith, counted)), q))

      pub for_0 : {at : ℕ} → x ≤ space → Skips words 1 lists.locals at → Ok (record { start = at; len = 4 * m }) ≡ locals_for words text place n pc records space
      for_0 {at} l j =
          let q = le-leb (length (active_local (locals_of o.function.function) n pc).name) space (omega (arith, name_len)) in
          let d : at ≡ locals_at place o.function.function = j.skips (length (locals_of o.function.function) ∷ []) refl (here_left (length (locals_of o.function.function) ∷ []) _ from.stand.stands.in_words) ∙ from.behind in
          sym (chosen ∙ rw (le-leb (length (locals_of o.function.function)) records (omega (arith, counted)), q, d, counted))

-- ---- the call

module _ (rs : List LocalRecord) (words text : List ℕ) (place n pc : ℕ) (out : List ℕ) where
  abbrev leaves : Function → LookupLeft
  leaves f =
      cond (leb (length (locals_of f)) (length rs)) (with_records rs (records_filled rs words (locals_at place f) (length (locals_of f))) (named (get_local_name (locals_of f) n pc) out))
      (with_records rs rs (name_refused out 8))

  left_by : (o : On words text place) → local_named_in rs words text place n pc out ≡ leaves o.function.function
  unfolding local_named_in
  left_by o = on_answer (λ r. with_records rs rs (name_refused out r)) (λ x. leaves x.function) o

  -- refused, as the definition says
  pub in_refused : (e : Refusal) → Err (number e) ≡ locals_for words text place n (pc % 2 ^ 32) (length rs) (length out) → lookup_left (record { refusal = number e; kind = 0; len = 0 }) rs out ≡ local_named_in rs words text place n pc out
  unfolding locals_for local_named_in get_local_name
  in_refused r =
      on_related (λ a l. Err (number r) ≡ a → lookup_left (record { refusal = number r; kind = 0; len = 0 }) rs out ≡ l) no_locals (λ r. with_records rs rs (name_refused out r))
      (λ x. choose words text place n (pc % 2 ^ 32) (length rs) (length out) x.function) (λ x. leaves x.function) words text place
      (λ m k h. let d : number r ≡ m = cc in rw (d, ne_eqb m 0 (λ z. omega arith)))
      (λ o. by o.function.function (leb (length (locals_of o.function.function)) (length rs)) (leb (length (get_local_name (locals_of o.function.function) n pc).name) (length out)))
    where
      by : (f : Function) (a b : Bool) → Err (number r) ≡ cond a (cond b (Ok (record { start = locals_at place f; len = 4 * length (locals_of f) })) (no_locals 11)) (no_locals 8) → lookup_left (record { refusal = number r; kind = 0; len = 0 }) rs out
          ≡ cond a (with_records rs (records_filled rs words (locals_at place f) (length (locals_of f))) (named_by (get_local_name (locals_of f) n pc).kind (cond b (record { answer = record { refusal = 0; len = length (get_local_name (locals_of f) n pc).name }; out = over (get_local_name (locals_of f) n pc).name out }) (write_refused 11 out))))
          (with_records rs rs (name_refused out 8))
      by f true true h = absurd (cc)
      by f true false h = let d : number r ≡ 11 = cc in rw d
      by f false b h = let d : number r ≡ 8 = cc in rw d

  module _ (v : Span) (e : Ok v ≡ locals_for words text place n (pc % 2 ^ 32) (length rs) (length out)) where
    -- what is known where the call is not refused
    pub record Ready : Type 0 where
      pub on : On words text place
      pub is : v ≡ record { start = locals_at place on.function.function; len = 4 * length (locals_of on.function.function) }
      pub enough : length (locals_of on.function.function) ≤ length rs
      pub fits : length (get_local_name (locals_of on.function.function) n pc).name ≤ length out

    ready : Ready
    unfolding locals_for get_local_name
    ready =
        on_related {B = ℕ} (λ a n. Ok v ≡ a → Ready) no_locals (λ n. n) (λ x. choose words text place n (pc % 2 ^ 32) (length rs) (length out) x.function) (λ x. 0) words text place
        (λ m k d. absurd (cc))
        (λ o. by o (leb (length (locals_of o.function.function)) (length rs)) (leb (length (get_local_name (locals_of o.function.function) n pc).name) (length out)) refl refl) e
      where
        by : (o : On words text place) (a b : Bool) → leb (length (locals_of o.function.function)) (length rs) ≡ a → leb (length (get_local_name (locals_of o.function.function) n pc).name) (length out) ≡ b
            → Ok v ≡ cond a (cond b (Ok (record { start = locals_at place o.function.function; len = 4 * length (locals_of o.function.function) })) (no_locals 11)) (no_locals 8) → Ready
        by o true true p q d = record { on = o; is = cc; enough = leb-true _ _ p; fits = leb-true _ _ q }
        by o true false p q d = absurd (cc)
        by o false b p q d = absurd (cc)

    abbrev y : Ready
    y = ready

    abbrev f : Function
    f = y.on.function.function

    start_is : v.start ≡ locals_at place f
    start_is = ap (λ (x : Span). x.start) y.is

    -- their words, in fours
    module _ {locals : List ℕ} (t : locals ≡ take v.len (drop v.start words)) where
      within : v.start + 4 * length (locals_of f) ≤ length words
      within =
          let x = locals_there y.on in
          let k = pieces_words local_piece 4 (λ a to. refl) (locals_of f) (x.stand.to + 0) in
          let h = here_length _ x.stand.stands.in_words in
          omega (arith, start_is, x.behind, k, h)

      len_is : v.len ≡ 4 * length (locals_of f)
      len_is = ap (λ (x : Span). x.len) y.is

      quarter : length locals / 4 ≡ length (locals_of f)
      quarter = let l = ap length t ∙ length-take-le v.len (drop v.start words) (omega (arith, length-drop v.start words, len_is, within)) in omega (arith, l, len_is)

      module _ (fours : List (List ℕ)) (h : length fours ≡ length locals / 4) where
        count_is : length fours ≡ length (locals_of f)
        count_is = h ∙ quarter

        pub count_enough : length fours ≤ length rs
        count_enough = omega (arith, count_is, y.enough)

        pub count_taken : length (take (length fours) rs) ≡ length fours
        count_taken = length-take-le (length fours) rs count_enough

        records_are : fours ≡ first_chunks 4 (length locals / 4) locals → records_of fours ≡ records_at words (locals_at place f) (length (locals_of f))
        records_are g =
            let n = length (locals_of f) in
            let l : locals ≡ take (4 * n) (drop (locals_at place f) words) = t ∙ ap (λ (m : ℕ). take m (drop v.start words)) len_is ∙ ap (λ (at : ℕ). take (4 * n) (drop at words)) start_is in
            ap records_of (g ∙ ap (λ (m : ℕ). first_chunks 4 m locals) quarter ∙ ap (first_chunks 4 n) l) ∙ records_fours words (locals_at place f) n

        -- the records are filled, searched, and the name is given
        pub in_answered : {filled : List LocalRecord} {k : Option Known} {r : Named} {out' : List ℕ} → fours ≡ first_chunks 4 (length locals / 4) locals → filled ≡ records_of fours → k ≡ active_in filled n (pc % 2 ^ 32) → name_left r out' ≡ named (object_of text k) out
            → lookup_left r (filled ++ drop (length fours) rs) out' ≡ local_named_in rs words text place n pc out
        unfolding get_local_name
        in_answered {filled} {k} {r} {out'} g a b s =
            let q : filled ≡ records_at words (locals_at place f) (length (locals_of f)) = a ∙ records_are g in
            let F = records_filled rs words (locals_at place f) (length (locals_of f)) in
            let l : object_of text k ≡ get_local_name (locals_of f) n pc = ap (object_of text) (b ∙ ap (λ (u : List LocalRecord). active_in u n (pc % 2 ^ 32)) q) ∙ locals_lead y.on n (pc % 2 ^ 32) refl refl in
            let w : name_left r out' ≡ named (get_local_name (locals_of f) n pc) out = s ∙ ap (λ (o : Object). named o out) l in
            let z : r.refusal ≡ 0 = ap (λ (u : NameLeft). u.answer.refusal) w ∙ rw (le-leb (length (get_local_name (locals_of f) n pc).name) (length out) y.fits) in
            let d : filled ++ drop (length fours) rs ≡ F = rw (q, count_is) in
            rw d (ap (λ (b : Bool). lookup_left r (cond b F rs) out') (sym (eq-eqb r.refusal 0 z)))
            ∙ ap (with_records rs F) w
            ∙ sym (left_by y.on ∙ rw (le-leb (length (locals_of f)) (length rs) y.enough))

-- ==== the statement: but for 8, the answer and what is left in out are get_local_name's

module _ (rs : List LocalRecord) (words text : List ℕ) (place n pc : ℕ) (out : List ℕ) where
  pub names_alike : ((local_named_in rs words text place n pc out).answer.refusal ≡ 8 → ⊥)
      → name_left (local_named_in rs words text place n pc out).answer (local_named_in rs words text place n pc out).out ≡ local_named words text place n pc out
  unfolding local_named_in local_named
  names_alike =
      on_related (λ l w. (l.answer.refusal ≡ 8 → ⊥) → name_left l.answer l.out ≡ w) (λ r. with_records rs rs (name_refused out r)) (name_refused out) (λ x. leaves rs words text place n pc out x.function)
      (λ x. named (get_local_name (locals_of x.function) n pc) out) words text place (λ m k h. refl) (λ o. by o.function.function (leb (length (locals_of o.function.function)) (length rs)))
    where
      by : (f : Function) (a : Bool) → let x = cond a (with_records rs (records_filled rs words (locals_at place f) (length (locals_of f))) (named (get_local_name (locals_of f) n pc) out)) (with_records rs rs (name_refused out 8)) in
          (x.answer.refusal ≡ 8 → ⊥) → name_left x.answer x.out ≡ named (get_local_name (locals_of f) n pc) out
      by f true d = refl
      by f false d = absurd (d refl)
