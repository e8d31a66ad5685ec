-- `cut_off` takes the last places out of the row, and makes them empty places of another type. Assumes `Logic`.
use mathlib.Core.Path.{◌≡◌, refl, sym, subst, ◌∙◌}
use Prim.Native.Nat.{ℕ, ◌+◌, ◌-◌, ◌*◌, ◌<◌, ◌≤◌, ◌^◌}
use native.Mathlib.Omega.{arith}
use mathlib.Core.List.{List, [], ◌∷◌, ◌++◌}
use seplogic.Ra.Ura.{Ura}
use base.Fraction.{full_share}
use mir.Syntax.{Fn, named, w64, ty_int, ty_array}
use mir.MapTy.{inst_fn}
use mir.Val.{Val, vptr, vint}
use base.Logic.{SProp, ent, never, id⊢}
use base.Fml.{Lft, GName, Share, ftrue, fat, froom, flft, fobs, fbor}
use prog.Memory.{align}
use prog.Wp.{Env, Calls, Loops, WpFn, Tables}
use types.Logic.{Logic}
use contract.Monad.{fact}
use contract.Running.{tables, tables_of}
use sound.WpLaws.{WpFn-mono}
use types.Kit.{Item, ⋆, ‵, ◌⊛◌, at_ret, ◌$◌, ◌∵◌, !, qed, by, move, keep, use0, use1, use2, split, join, rewrite, fsplit, fsplit3, fjoin, fjoin3, feq_i, feq_l, suffices, frame, done}
use types.Part.{whole, sub, agg}
use types.Run.{stop, fld, lit, of_opd, and_then, no_more, first, blocks, exec, returns, enter}
use types.ByLocal.{alloc_all, pass_all, free_all, look_at, get, get_in, sets, sets_last, env}
use types.SemTy.{Body as Borrowed}
use denote.Exit.{yes, no}
use denote.RattleType.{RattleType, owns}
use denote.Memory.{mem}
use denote.Param.{layout}
use denote.RawPtr.{Ptr, block_ptr, in_a_block}
use denote.RawPtr.Room.{room_cut, past}
use denote.Ref.{MutBor, MutRef}
use denote.Builtin.{RefMutOf, u64}
use denote.Signature.{plain}
use denote.Steps.{nothing, opens, closes}
use denote.Triple.Carry.{spared}
use denote.Triple.Clauses.{Clauses, Ended, closing}
use denote.Triple.Entry.{on_entry}
use denote.Triple.Spec.{Meets, triple_of}
use denote.Triple.Table.{entered, run_framed}
use denote.Triple.Walked.{says, needs, Stays, stay_dropped, stay_ref, walk_of, ends_at, Goes-dropped, Goes-ref, walk_Meets}
use Rattle.std_alloc.proofs.VecSteps.Shapes.{after}
use Rattle.std_alloc.proofs.RcSteps.{Good, word, word-Good}
use lib.ListN.{length, replicate, length-replicate}
use types.Kit.{flt_l, flt_i}
use types.Run.{bin}
use types.ByLocal.{take_at, give_at}
use denote.Builtin.{usize}
use Rattle.std.specs.Prelude.{Option, None}
use Rattle.core.proofs.mem.Param.{El, R, args, elτ}
use Rattle.std_alloc.proofs.Pairs.{pair_of, pair_val}
use denote.Struct.Tuple.{Tuple}
use Rattle.p8_region.specs.Ownership.{slots, places_own}
use Rattle.p8_region.proofs.Memory.{Row, Begin, Mark, mark, mark_made, word_had, word_made, of_room, to_room}
use Rattle.p8_region.proofs.Retyping.{retyped, past_words}
use Rattle.std.specs.Mem.{type_size}
use Rattle.p8_region.specs.contracts.places.cut_off.Key.{name as #self}
use Rattle.p8_region.proofs.places.cut_off.Statement as stated
use Rattle.p8_region.proofs.places.cut_off.Code as code

abbrev U : RattleType
U = Row u64

abbrev Out : El → RattleType
Out E = Tuple (Begin (R E) ∷ Row (R E) ∷ [])

module _ (E : El) where
  abbrev function : Fn
  function = inst_fn (args E) code.function

  abbrev ended : Ended
  ended = record { signature = record { lifetimes = 1; outlives = []; params = RefMutOf (0 ∷ []) tt (plain (λ _. U)) (λ _. tt) ∷ plain (λ _. Begin u64) ∷ plain (λ _. usize) ∷ plain (λ _. usize) ∷ []; result = plain (λ _. Out E) }; kept = (yes, (no, (no, (no, tt)))) }

  abbrev stayed : Stays ended.signature.params ended.kept
  stayed = (stay_ref (0 ∷ []) tt (plain (λ _. U)), (stay_dropped (plain (λ _. Begin u64)) no, (stay_dropped (plain (λ _. usize)) no, (stay_dropped (plain (λ _. usize)) no, tt))))

  abbrev Asks : U.Denot → (Begin u64).Denot → (usize).Denot → (usize).Denot → Type 0
  Asks d start from count = (start.ptr ≡ d.at) × (d.slots ≡ replicate (length d.slots) None) × (from ≤ length d.slots) × (count * type_size (R E) ≤ (length d.slots - from) * 8) × (align (layout E.row) ≤ 8)

  abbrev Gives : U.Denot → (usize).Denot → (usize).Denot → (Out E).Denot → U.Denot → Type 0
  Gives d from count r new = (new.at ≡ d.at) × (new.slots ≡ replicate from None) × (r.1.at ≡ r.0.ptr) × (r.1.slots ≡ replicate count None)

  abbrev spec : {M : Type 1} {𝓤 : Ura M} (𝓛 : Logic 𝓤) → Clauses 𝓤 ended
  spec {𝓤 = 𝓤} 𝓛 κs a = record { ghost = Unit {0}; requires = λ _. fact 𝓤 (Asks a.0.now a.1.0 a.1.1.0 a.1.1.1.0); ensures = λ _ r w. fact 𝓤 (Gives a.0.now a.1.1.0 a.1.1.1.0 r w.0.now) }

module _ (E : El) {M : Type 1} {𝓤 : Ura M} (𝓛 : Logic 𝓤) (C : Calls 𝓤 𝓛.H) (Λ : Loops 𝓤 𝓛.H) (κ : Lft) (q : Share) (rb ro : ℕ) (γ : GName) (d : U.Denot) (start : (Begin u64).Denot) (from : (usize).Denot) (count : (usize).Denot) (us0 us1 us2 us3 : List Val) where
  open 𝓛 use {H, A}

  abbrev self : MutBor U.Denot
  self = record { ref_ptr = (rb, ro); ghost_name = γ; now = d }

  abbrev bound : (walk_of 𝓛 (ended E) (stayed E) (spec E 𝓛)).Ghost
  bound = (((κ, tt), (q, tt), tt, (self, (start, (from, (count, tt)))), (us0, (us1, (us2, (us3, tt))))), tt)

  abbrev Post : Val → SProp 𝓤
  Post = (walk_of 𝓛 (ended E) (stayed E) (spec E 𝓛)).post bound

  exits : us0 ≡ vptr rb ro ∷ [] → (r : (Out E).Denot) (v : Val) (new : U.Denot) → Gives E d from count r new → ent 𝓤 (⋆ 𝓛 (‵ (fobs γ (U.coded.code new)) ∷ ‵ (fbor κ (Borrowed (mem U) rb ro γ)) ∷ ‵ (flft κ q) ∷ ‵ ((Out E).own_val r (v ∷ [])) ∷ [])) (Post v)
  exits passed r v new g0 =
      qed 𝓛 (‵ (fobs γ (U.coded.code new)) ∷ ‵ (fbor κ (Borrowed (mem U) rb ro γ)) ∷ ‵ (flft κ q) ∷ ‵ ((Out E).own_val r (v ∷ [])) ∷ []) ∵
      suffices ! _ (ends_at 𝓛 (ended E) (stayed E) (spec E 𝓛) bound v r (new, (tt, (tt, (tt, tt)))) (tt, (tt, (tt, (tt, tt))))) $ says ! g0 $
      nothing ! $ move ! (3 ∷ 0 ∷ []) $ join ! $ frame ! $ feq_i ! (List Val) us0 (vptr rb ro ∷ []) passed $ fjoin3 ! $ nothing ! $ nothing ! $ fjoin ! $ nothing ! $ fjoin ! $ nothing ! $ fjoin ! $ move ! (1 ∷ 0 ∷ []) $ fjoin ! $ done !

  abbrev Had : List (Item 𝓤)
  Had = ‵ (fobs γ (U.coded.code d)) ∷ ‵ (fbor κ (Borrowed (mem U) rb ro γ)) ∷ ‵ (flft κ q) ∷ []

  walk : us0 ≡ vptr rb ro ∷ [] → Asks E d start from count → from < 2 ^ 64 → count < 2 ^ 64 → ent 𝓤 (⋆ 𝓛 Had) (WpFn 𝓤 H C Λ (function E) (vptr rb ro ∷ word start.ptr ∷ vint w64 from ∷ vint w64 count ∷ []) Post)
  walk passed asked fits_from fits_count =
      let empty = asked.1 in let within = asked.2 in let hold = asked.3 in let low = asked.4 in
      let k : ℕ = length d.slots in let m : ℕ = k - from in let parts : k ≡ from + m = omega arith in
      let new : U.Denot = record { mark = d.mark; at = d.at; slots = replicate from None } in
      qed 𝓛 Had ∵ enter ! C Λ (function E) (vptr rb ro ∷ word start.ptr ∷ vint w64 from ∷ vint w64 count ∷ []) _ $ alloc_all ! (λ l. pass_all ! refl ((tt, tt), (word-Good [] start.ptr, ((tt, record { fits = fits_from }), ((tt, record { fits = fits_count }), tt)))) $
      let En : Env 𝓤 H = env (function E).locals l in
      opens ! tt U {h = d} rb ro (λ vs. move ! (1 ∷ []) $ fsplit ! $ move ! (1 ∷ []) $
      in_a_block ! d.at (λ p. places_own u64 p d.slots) (id⊢ 𝓤 (never 𝓤)) (λ b o e. fsplit ! $ flt_l ! (λ small.
      let far : from * 8 < 2 ^ 64 = omega arith in let at : ℕ = from * 8 + o in
      let p : Ptr = block_ptr b at in
      let row : (Row (R E)).Denot = record { mark = record {}; at = p; slots = replicate count None } in
      let out : (Out E).Denot = (record { ptr = p }, row) in
      let made : Val = pair_val (word p) mark in
      let typed : Good (layout (Out E)) made = (tt, ((tt, tt), ((tt, tt), tt))) in
      -- the row is cut, and its last places become places of the other type
      rewrite ! 0 (λ (l : List (Option u64.Denot)). ‵ (slots u64 b o l)) empty refl $ use1 𝓛 (‵ (froom (ty_array (ty_int w64) k) b o)) (to_room u64 𝓛 b k o) $
      rewrite ! 0 (λ (j : ℕ). ‵ (froom (ty_array (ty_int w64) j) b o)) parts refl $
      use1 𝓛 (‵ (froom (ty_array (ty_int w64) from) b o) ⊛ ‵ (froom (ty_array (ty_int w64) m) b (past (ty_int w64) from o))) (room_cut 𝓛 (ty_int w64) from m b o) $ split ! $
      use1 𝓛 (‵ (slots u64 b o new.slots)) (of_room u64 𝓛 b from o) $ move ! (1 ∷ 0 ∷ []) $
      rewrite ! 0 (λ (j : ℕ). ‵ (froom (ty_array (ty_int w64) m) b j)) (past_words from o) refl $
      use1 𝓛 (‵ (froom (ty_array (elτ E) count) b at)) (retyped 𝓛 b at m count (elτ E) low hold) $ use1 𝓛 (‵ (slots (R E) b at row.slots)) (of_room (R E) 𝓛 b count at) $
      flt_i ! (length row.slots * type_size (R E)) (2 ^ 63) (subst (λ j. j * type_size (R E) < 2 ^ 63) (sym (length-replicate count None)) (omega arith)) $ fjoin ! $
      use0 𝓛 (‵ ((Mark (R E)).own_val (tt, tt) (mark ∷ []))) (mark_made (R E) 𝓛) $ fjoin ! $ word_made ! p $
      use2 𝓛 (‵ ((Out E).own_val out (made ∷ []))) (pair_of 𝓛 (Begin (R E)) (Row (R E)) out.0 out.1 (word p) mark) $ move ! (1 ∷ 2 ∷ 3 ∷ 4 ∷ 5 ∷ 6 ∷ 0 ∷ []) $
      -- the row is shut again
      flt_i ! (length new.slots * 8) (2 ^ 63) (subst (λ j. j * 8 < 2 ^ 63) (sym (length-replicate from None)) (omega arith)) $ fjoin ! $
      rewrite ! 0 (λ (p : Ptr). ‵ (places_own u64 p new.slots)) (sym e) refl $ move ! (1 ∷ 0 ∷ []) $ fjoin ! $ move ! (1 ∷ 0 ∷ []) $ closes ! tt U new vs rb ro $
      take_at ! 2 $ rewrite ! 0 (λ (p : Ptr). ‵ (fat full_share (layout (Begin u64)) (l 2) 0 (word p))) (asked.0 ∙ e) refl $ give_at ! 2 $ first ! $ blocks ! $
      sets ! (bin ! (get ! refl) (lit ! tt) (record { fits = far })) refl (tt, record { fits = far }) $
      sets_last ! (bin ! (get_in ! (fld ! refl (stop !)) (sub ! 0 refl (whole !))) (get ! refl) tt) refl (tt, tt) $
      exec ! C Λ En (after 1 (function E).body) (at_ret En Post) $
      sets ! (of_opd ! (get ! refl)) refl (tt, tt) $ sets ! (of_opd ! (get ! refl)) refl (tt, tt) $
      sets ! (agg ! (and_then ! (get ! refl) (no_more !))) refl (word-Good [] p) $
      sets ! (agg ! (no_more !)) refl (tt, tt) $ sets ! (agg ! (and_then ! (get ! refl) (no_more !))) refl (tt, (tt, tt)) $
      sets ! (agg ! (and_then ! (get ! refl) (and_then ! (get ! refl) (no_more !)))) refl typed $
      returns ! (look_at ! 0 refl) $ free_all ! refl $ keep ! (0 ∷ 1 ∷ 2 ∷ 3 ∷ []) $
      by ! (exits passed out made new (refl, refl, refl, refl))))))

  entry : Asks E d start from count → ent 𝓤 (on_entry 𝓛 (ended E).signature (κ, tt) (q, tt) (self, (start, (from, (count, tt)))) (us0, (us1, (us2, (us3, tt))))) (WpFn 𝓤 H C Λ (function E) (us0 ++ (us1 ++ (us2 ++ (us3 ++ [])))) Post)
  entry asked =
      qed 𝓛 ((‵ (flft κ q) ⊛ ‵ ftrue) ∷ ‵ (owns (MutRef (named 0) κ U ∷ Begin u64 ∷ usize ∷ usize ∷ []) (self, (start, (from, (count, tt)))) (us0, (us1, (us2, (us3, tt))))) ∷ []) ∵
      split ! $ move ! (2 ∷ []) $
      fsplit ! $
      fsplit3 ! $ feq_l ! (λ e0.
      move ! (2 ∷ []) $
      fsplit ! $
      word_had ! start.ptr us1 (λ e1.
      fsplit ! $
      fsplit ! $ feq_l ! (λ e2. flt_l ! (λ fits_from.
      fsplit ! $
      fsplit ! $ feq_l ! (λ e3. flt_l ! (λ fits_count.
      keep ! (1 ∷ 2 ∷ 3 ∷ []) $
      by ! (subst (λ (ws : List Val × List Val × List Val × List Val). ent 𝓤 (⋆ 𝓛 Had) (WpFn 𝓤 H C Λ (function E) (ws.0 ++ (ws.1 ++ (ws.2 ++ (ws.3 ++ [])))) Post)) (λ j. (sym e0 j, sym e1 j, sym e2 j, sym e3 j)) (walk e0 asked fits_from fits_count))))))))

meets : (E : El) {M : Type 1} {𝓤 : Ura M} (𝓛 : Logic 𝓤) (𝓣 : Tables 𝓤 𝓛.H)
    → Meets 𝓛 (ended E).signature (WpFn 𝓤 𝓛.H 𝓣.C 𝓣.Λ (function E)) (closing 𝓛 (ended E) (spec E 𝓛))
meets E {𝓤 = 𝓤} 𝓛 𝓣 =
    walk_Meets 𝓛 (ended E) (stayed E) (Goes-ref 𝓛 1 0 tt (plain (λ _. U)), (Goes-dropped 𝓛 1 (plain (λ _. Begin u64)) no (λ κs x f. refl), (Goes-dropped 𝓛 1 (plain (λ _. usize)) no (λ κs x f. refl), (Goes-dropped 𝓛 1 (plain (λ _. usize)) no (λ κs x f. refl), tt)))) (spec E 𝓛) (WpFn 𝓤 𝓛.H 𝓣.C 𝓣.Λ (function E)) (WpFn-mono 𝓤 𝓛.H 𝓛.laws 𝓣 (function E))
    (λ z. needs 𝓤 (Asks E z.0.3.0.now z.0.3.1.0 z.0.3.1.1.0 z.0.3.1.1.1.0) _ (entry E 𝓛 𝓣.C 𝓣.Λ z.0.0.0 z.0.1.0 z.0.3.0.ref_ptr.0 z.0.3.0.ref_ptr.1 z.0.3.0.ghost_name z.0.3.0.now z.0.3.1.0 z.0.3.1.1.0 z.0.3.1.1.1.0 z.0.4.0 z.0.4.1.0 z.0.4.1.1.0 z.0.4.1.1.1.0))

pub cut_off_spec : {M : Type 1} → stated.statement M
unfolding tables_of
cut_off_spec 𝓤 𝓛 𝓜 𝓡 wired X LX y =
    let E : El = record { row = X; laws = LX } in
    let 𝓣 : Tables 𝓤 𝓛.H = tables_of 𝓤 𝓛.H 𝓜 (tables 𝓤 𝓛.H 𝓜 𝓡 𝓡.env) in
    let k = #self (args E) in
    spared 𝓛 (ended E).signature (𝓡.run (𝓡.env k)) (run_framed 𝓤 𝓛.H 𝓜 𝓡 (𝓡.env k)) 1 (X.lives, tt) (closing 𝓛 (ended E) (spec E 𝓛))
    (entered 𝓤 𝓛.H (triple_of 𝓛 (ended E).signature (closing 𝓛 (ended E) (spec E 𝓛))) 𝓣.C 𝓣.Λ k (function E) (code.unfolded 𝓤 𝓛.H 𝓜 𝓡 wired (X, tt)) (meets E 𝓛 𝓣))
    ((y.0.0, y.0.1, tt, y.0.3, y.0.4), y.1)
