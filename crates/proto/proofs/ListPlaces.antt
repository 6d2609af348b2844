-- Where the lists of a function stand: each behind the one before it, the lines behind the functions; and what is kept of lines.
use Rattle.lent.proofs.Prelude.{ℕ, suc, ◌-◌, ◌<◌, ◌≡◌, sym, ◌∙◌, List, arith, ℕ_discrete, length, set, get_or-set_same, get_or-set_other}
use Rattle.std.specs.Prelude.{Option, None, Some}
use Rattle.std.proofs.lemmas.Option.{same_Some}
use Rattle.format.specs.Tree.{Parts, Function, Functions, Debug, count}
use Rattle.format.specs.Store.{list, ints, local_piece, debug_piece, function_piece}
use Rattle.format.specs.Valid.{ValidAll}
use Rattle.format.specs.contracts.LocalsStoredItem.TheImpl.{ghosts as Locals}
use Rattle.proto.specs.declared.walk.Next.{Next}
use Rattle.proto.specs.declared.lists.Lists.{Lists}
use Rattle.proto.specs.declared.lists.Kept.{Kept}
use Rattle.proto.specs.declared.store.Store.{Store}
use Rattle.proto.specs.Walk.{StandsAt, SkipsItems, Past, PassesAll, to_code, to_constants, to_functions, to_lines, to_locals}
use Rattle.proto.specs.Lists.{ListsAt, ListsFound, LinesAt, LinesKept, WalksToLines}
use Rattle.proto.proofs.Walks.{past_then, past_ints, past_list, all_none, all_more, passes_past, none_deep, pass_inside}
use Rattle.proto.proofs.Items.{somewhere, code_stands, constants_stand, functions_stand, lines_stand, locals_stand, upvalues_stand}

-- ---- the lists of a function

pub lists_found : {store : Store} {at code constants functions lines locals upvalues : ℕ} (allowance : ℕ)
    → ((p : Parts) (fs : Functions) → ValidAll fs allowance → Past store.words.now (to_lines p fs) at lines) → SkipsItems store.words.now 1 lines locals → SkipsItems store.words.now Locals.WORDS locals upvalues
    → ((p : Parts) (fs : Functions) → Past store.words.now (to_code p fs) at code) → ((p : Parts) (fs : Functions) → Past store.words.now (to_constants p fs) at constants) → ((p : Parts) (fs : Functions) → Past store.words.now (to_functions p fs) at functions)
    → (p : Parts) (fs : Functions) → ValidAll fs allowance
    → ListsFound at p fs (record { store = store; code = code; constants = constants; functions = functions; lines = lines; locals = locals; upvalues = upvalues })
lists_found allowance li lo up co ks fu p fs v =
    let to-locals = past_then {p = to_lines p fs} {q = ints p.debug.lines} (li p fs v) (past_ints p.debug.lines lo) in
    record {
      code = co p fs;
      constants = ks p fs;
      functions = fu p fs;
      lines = li p fs v;
      locals = to-locals;
      upvalues = past_then {p = to_locals p fs} {q = list local_piece p.debug.locals} to-locals (past_list Locals p.debug.locals up);
    }

-- where the function stands, so do its lists
pub lists_stand : {s : Store} {at : ℕ} {l : Lists} (p : Parts) (fs : Functions) → l.store ≡ s → StandsAt s.words.now s.text.now at (function_piece (Function.function p fs)) → ListsFound at p fs l → ListsAt l p fs
lists_stand {at = at} p fs e h l =
    let s = (rw (← e) at h).stands in
    record {
      code = somewhere (code_stands p fs s l.code);
      constants = somewhere (constants_stand p fs s l.constants);
      functions = somewhere (functions_stand p fs s l.functions);
      lines = somewhere (lines_stand p fs s l.lines);
      locals = somewhere (locals_stand p fs s l.locals);
      upvalues = somewhere (upvalues_stand p fs s l.upvalues);
    }

-- ---- what is kept of lines: one thing more

pub kept_more : {words : List ℕ} {kept : List (Option Kept)} {k at r : ℕ} → k < length kept → LinesKept words kept → LinesAt words k at r → LinesKept words (set kept k (Some (record { begin = at; lines = r })))
kept_more {kept = kept} {k} {at} {r} h w l = record {
  kept = λ j x e. elim (ℕ_discrete j k) [
    | yes q ↦
        let d = same_Some _ _ (sym (get_or-set_same kept k (Some (record { begin = at; lines = r })) None h) ∙ rw q at e) in
        rw (q, ← d) l
    | no n ↦ w.kept j x (sym (get_or-set_other kept k j (Some (record { begin = at; lines = r })) None n) ∙ e)
  ];
}

-- ---- the lines, behind the functions

pub walked : {words : List ℕ} {allowance : ℕ} {s r : Next} → WalksToLines words allowance s r → LinesAt words allowance s.at r.at
walked w = record { past = λ p fs v. passes_past (w p fs v) }

pub all_zero : {words : List ℕ} {i n : ℕ} {s : Next} → i ≡ 0 → PassesAll words n i s s
all_zero e = rw e all_none

-- functions that may not be there
pub all_deep : {words : List ℕ} {i n : ℕ} {s r : Next} → n ≡ 0 → (i ≡ 0 → ⊥) → PassesAll words n i s r
unfolding count ValidAll
all_deep z h = record { all = elim [ Functions.none ↦ λ v e. absurd (h (sym e)) | Functions.more f fs ↦ λ v e. absurd (none_deep z f v.0) ] }

-- the first function, then the others
pub all_first : {words : List ℕ} {i n k : ℕ} {s l r : Next} → (n ≡ 0 → ⊥) → (i ≡ 0 → ⊥) → WalksToLines words (n - 1) s l → ((d : Debug) → Past words (debug_piece d) l.at k)
    → PassesAll words n (i - 1) (record { at = k; number = l.number }) r → PassesAll words n i s r
all_first {i = i} {r = r} hn hi w d others = let x : i ≡ suc (i - 1) = omega arith in rw x (all_more (pass_inside hn w d) (i - 1) r others)
