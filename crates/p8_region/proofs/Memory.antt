-- What the walks of the functions with raw pointers share. Assumes `Logic`.
--     word_had, word_made, mark_had, mark_made      a value of one pointer, and one of no bytes
--     slot_out, slot_in, slot_emptied, front_seen      one place is taken out of the row, put back or emptied, and the first values are seen
--     of_room, to_room      room for an array is a row of empty places
use mathlib.Core.Path.{◌≡◌, refl, sym, ap, subst, ◌∙◌}
use Prim.Native.Nat.{ℕ, zero, suc, ◌+◌, ◌*◌, ◌<◌, ◌≤◌}
use native.Mathlib.Omega.{arith}
use native.Mathlib.Nat.{zero-mul, suc-mul}
use mathlib.Core.List.{List, [], ◌∷◌, ◌++◌, map}
use lib.ListN.{length, take, drop, set, get_or, replicate, take-append-drop, length-take}
use lib.Seq.{drop-cons, set_split}
use seplogic.Ra.Ura.{Ura}
use base.Fraction.{full_share}
use mir.Syntax.{Ty, ty_array}
use mir.Val.{Val, vstruct, vcons, vnil, of_list}
use base.Logic.{ent, sep, emp, ex, guard, id⊢, mono_r}
use base.Fml.{Fml, Lft, ftrue, fsep, fat, froom}
use types.Logic.{Logic, sem}
use types.Kit.{Item, Goal, Seq, Step, step, ‵, some, given, ◌⊛◌, ◌$◌, ◌∵◌, !, qed, by, move, keep, drop as skip, use1, use2, pick, learn, split, check, show, frame, fsplit, fjoin, fpick, fpack, feq_i, feq_l, rewrite, done}
use denote.RattleType.{RattleType, Valss}
use denote.Laws.{Typed, Is, shows}
use denote.Param.{param, layout}
use denote.Param.Laws.{Laws, param_laws}
use denote.Memory.{lone, part_at}
use denote.RawPtr.{Ptr, RawPtr, ptr_val}
use denote.Shadow.{makes_shadow}
use denote.Slice.{elements_shared}
use denote.Steps.{nothing, peeks}
use denote.Struct.Struct.{Shape, Struct, within}
use denote.Struct.Owning.{shape}
use borrow.Table.OneValue.{part_in, part_out}
use Rattle.std.specs.Prelude.{Option, Some, None}
use Rattle.std.specs.Mem.{type_size}
use Rattle.std_alloc.proofs.RcSteps.{Good, word}
use Rattle.p8_region.specs.Ownership.{slot, slots, slot_lent, slots_lent}
use Rattle.p8_region.specs.contracts.places.Places as C-type
use Rattle.p8_region.specs.contracts.places.Start as B-type

abbrev pub Row : RattleType → RattleType
Row T = C-type.the_row T

abbrev pub Begin : RattleType → RattleType
Begin T = B-type.the_row T

-- the one field of `Places`, which takes no bytes
abbrev pub Mark : RattleType → RattleType
Mark T = Struct (shape (C-type.the_type T))

abbrev one_field : Shape
one_field = record { name = []; args = []; types = []; fields = RawPtr ∷ [] }

abbrev pub Word : RattleType
Word = Struct one_field

abbrev pub mark : Val
mark = vstruct (vcons (vstruct vnil) vnil)

pub mark_made : (T : RattleType) {M : Type 1} {𝓤 : Ura M} (𝓛 : Logic 𝓤) → ent 𝓤 (emp 𝓤) (sem 𝓛 ((Mark T).own_val (tt, tt) (mark ∷ [])))
mark_made T 𝓛 = makes_shadow 𝓛 ((Mark T).own_val (tt, tt) (mark ∷ [])) (λ vss. (tt, ((λ uss. (tt, tt)), tt))) ((vstruct vnil ∷ [], tt), (refl, ((tt, (refl, tt)), tt)))

module _ {M : Type 1} {𝓤 : Ura M} {𝓛 : Logic 𝓤} {K : Type 0} {Γ : List (Item 𝓤)} {G : Goal 𝓤 𝓛.H} where
  pub word_had : K → (c : Ptr) (vs : List Val) → (vs ≡ word c ∷ [] → Seq K 𝓛 Γ G) → Seq K 𝓛 (‵ (Word.own_val (c, tt) vs) ∷ Γ) G
  word_had t c vs k = fpick t (λ vss. fsplit t $ feq_l t (λ ev. fsplit t $ feq_l t (λ e. skip t $ k (subst (λ (ws : List Val). vs ≡ vstruct (of_list (ws ++ [])) ∷ []) e ev))))

  pub word_made : K → (c : Ptr) → Step K 𝓛 (‵ (Word.own_val (c, tt) (word c ∷ [])) ∷ Γ) G Γ G
  word_made t c = step (λ s.
      nothing t $ feq_i t (List Val) (ptr_val c ∷ []) (ptr_val c ∷ []) refl $ fjoin t $ feq_i t (List Val) (word c ∷ []) (word c ∷ []) refl $ fjoin t $
      fpack t (Valss (RawPtr ∷ [])) (within one_field (c, tt) (word c ∷ [])) (ptr_val c ∷ [], tt) $ s)

module _ (i : ℕ) (Y : RattleType) (L : Laws Y) {M : Type 1} {𝓤 : Ura M} (𝓛 : Logic 𝓤) where
  open 𝓛 use {H}

  pub value_out : (x : Y.Denot) (b o : ℕ) → ent 𝓤 (sem 𝓛 (part_at (param i Y) full_share x b o)) (ex 𝓤 (λ (v : Val). guard 𝓤 (Good (layout Y) v) (sep 𝓤 (H.at full_share (layout Y) b o v) (sem 𝓛 (Y.own_val x (v ∷ []))))))
  value_out x b o = qed 𝓛 (‵ (part_at (param i Y) full_share x b o) ∷ []) ∵
      use1 𝓛 (some (λ (v : Val). ‵ (fat full_share (layout Y) b o v) ⊛ ‵ (Y.own_val x (v ∷ [])))) (part_out 𝓛 (param i Y) refl full_share x b o) $ pick ! (λ v. split ! $ move ! (1 ∷ []) $
      peeks ! (param i Y) (Is (param i Y)) (shows 𝓛 (param i Y)) x (v ∷ []) (λ p.
      show ! (λ (w : Val). guard 𝓤 (Good (layout Y) w) (sep 𝓤 (H.at full_share (layout Y) b o w) (sem 𝓛 (Y.own_val x (w ∷ []))))) v $ check ! (((param_laws i Y L).lawful 𝓛).typed x (v ∷ []) p).0 $ move ! (1 ∷ 0 ∷ []) $ done !))

  pub value_in : (x : Y.Denot) (b o : ℕ) (v : Val) → ent 𝓤 (sep 𝓤 (H.at full_share (layout Y) b o v) (sem 𝓛 (Y.own_val x (v ∷ [])))) (sem 𝓛 (part_at (param i Y) full_share x b o))
  value_in x b o v = part_in 𝓛 (param i Y) refl full_share x b o v

  -- what a place holds is forgotten
  pub slot_emptied : (c : Option Y.Denot) (b o : ℕ) → ent 𝓤 (sem 𝓛 (slot (param i Y) b o c)) (sem 𝓛 (slot (param i Y) b o None))
  slot_emptied None b o = id⊢ 𝓤 _
  slot_emptied (Some x) b o = qed 𝓛 (‵ (part_at (param i Y) full_share x b o) ∷ []) ∵
      use1 𝓛 (some (λ (v : Val). given (Good (layout Y) v) (‵ (fat full_share (layout Y) b o v) ⊛ ‵ (Y.own_val x (v ∷ []))))) (value_out x b o) $ pick ! (λ v. learn ! (λ good. split ! $ keep ! (0 ∷ []) $
      use1 𝓛 (‵ (froom (layout Y) b o)) (𝓛.laws.at_room (layout Y) b o v) $ by ! (𝓛.laws.room-raw (layout Y) b o)))

alone : (τ : Ty) (vs : List Val) → Typed (τ ∷ []) vs → (v : Val) × ((vs ≡ v ∷ []) × Good τ v)
alone τ [] t = absurd t
alone τ (v ∷ []) t = (v, (refl, t.0))
alone τ (v ∷ w ∷ vs) t = absurd t.1

module _ (Y : RattleType) (L : Laws Y) {M : Type 1} {𝓤 : Ura M} {𝓛 : Logic 𝓤} {K : Type 0} {Γ : List (Item 𝓤)} {G : Goal 𝓤 𝓛.H} where
  -- what is owned of a value is one machine value, of its type
  pub tells : K → (x : Y.Denot) (vs : List Val) → ((v : Val) → vs ≡ v ∷ [] → Good (layout Y) v → Seq K 𝓛 (‵ (Y.own_val x (v ∷ [])) ∷ Γ) G) → Seq K 𝓛 (‵ (Y.own_val x vs) ∷ Γ) G
  tells t x vs k =
      peeks t (param 0 Y) (Is (param 0 Y)) (shows 𝓛 (param 0 Y)) x vs (λ is.
      let one = alone (layout Y) vs (((param_laws 0 Y L).lawful 𝓛).typed x vs is) in
      rewrite t 0 (λ (us : List Val). ‵ (Y.own_val x us)) one.1.0 refl $ k one.0 one.1.0 one.1.1)

module _ (T : RattleType) {M : Type 1} {𝓤 : Ura M} (𝓛 : Logic 𝓤) (b : ℕ) where
  open 𝓛 use {H}

  abbrev s : ℕ
  s = type_size T

  abbrev Cells : ℕ → List (Option T.Denot) → Fml
  Cells = slots T b

  cut : (xs ys : List (Option T.Denot)) (o at : ℕ) → at ≡ length xs * s + o → ent 𝓤 (sem 𝓛 (Cells o (xs ++ ys))) (sep 𝓤 (sem 𝓛 (Cells o xs)) (sem 𝓛 (Cells at ys)))
  cut [] ys o at e = qed 𝓛 (‵ (Cells o ys) ∷ []) ∵ rewrite ! 0 (λ (k : ℕ). ‵ (Cells k ys)) {x = at} (omega (arith, zero-mul s)) refl $ nothing ! $ done !
  cut (x ∷ xs) ys o at e = let more : at ≡ suc (length xs) * s + o = e in qed 𝓛 (‵ (Cells o (x ∷ xs ++ ys)) ∷ []) ∵ fsplit ! $ move ! (1 ∷ []) $
      use1 𝓛 (‵ (Cells (o + s) xs) ⊛ ‵ (Cells at ys)) (cut xs ys (o + s) at (omega (arith, suc-mul (length xs) s))) $ split ! $ move ! (2 ∷ 0 ∷ []) $ fjoin ! $ done !

  glue : (xs ys : List (Option T.Denot)) (o at : ℕ) → at ≡ length xs * s + o → ent 𝓤 (sep 𝓤 (sem 𝓛 (Cells o xs)) (sem 𝓛 (Cells at ys))) (sem 𝓛 (Cells o (xs ++ ys)))
  glue [] ys o at e = qed 𝓛 (‵ ftrue ∷ ‵ (Cells at ys) ∷ []) ∵ skip ! $ rewrite ! 0 (λ (k : ℕ). ‵ (Cells k ys)) {x = o} (omega (arith, zero-mul s)) refl $ done !
  glue (x ∷ xs) ys o at e = let more : at ≡ suc (length xs) * s + o = e in qed 𝓛 (‵ (Cells o (x ∷ xs)) ∷ ‵ (Cells at ys) ∷ []) ∵ fsplit ! $ move ! (1 ∷ 2 ∷ []) $
      use2 𝓛 (‵ (Cells (o + s) (xs ++ ys))) (glue xs ys (o + s) at (omega (arith, suc-mul (length xs) s))) $ move ! (1 ∷ 0 ∷ []) $ fjoin ! $ done !

  module _ (o : ℕ) (cs : List (Option T.Denot)) (i : ℕ) where
    -- the places but for the i-th
    abbrev pub Besides : Fml
    Besides = fsep (Cells o (take i cs)) (Cells (i * s + o + s) (drop (suc i) cs))

    before : i ≤ length cs → i * s + o ≡ length (take i cs) * s + o
    before le = let long : i ≡ length (take i cs) = omega (arith, length-take i cs) in ap (λ k. k * s + o) long

    pub slot_out : i < length cs → ent 𝓤 (sem 𝓛 (Cells o cs)) (sep 𝓤 (sem 𝓛 (slot T b (i * s + o) (get_or cs i None))) (sem 𝓛 Besides))
    slot_out lt = qed 𝓛 (‵ (Cells o cs) ∷ []) ∵
        rewrite ! 0 (λ (l : List (Option T.Denot)). ‵ (Cells o l)) (sym (take-append-drop i cs) ∙ ap (λ l. take i cs ++ l) (drop-cons cs i None lt)) refl $
        use1 𝓛 (‵ (Cells o (take i cs)) ⊛ ‵ (Cells (i * s + o) (get_or cs i None ∷ drop (suc i) cs))) (cut (take i cs) (get_or cs i None ∷ drop (suc i) cs) o (i * s + o) (before (omega arith))) $
        split ! $ move ! (1 ∷ []) $ fsplit ! $ move ! (2 ∷ 1 ∷ []) $ fjoin ! $ move ! (1 ∷ []) $ done !

    pub slot_in : i < length cs → (c : Option T.Denot) → ent 𝓤 (sep 𝓤 (sem 𝓛 (slot T b (i * s + o) c)) (sem 𝓛 Besides)) (sem 𝓛 (Cells o (set cs i c)))
    slot_in lt c = qed 𝓛 (‵ (slot T b (i * s + o) c) ∷ ‵ Besides ∷ []) ∵ move ! (1 ∷ []) $ fsplit ! $ move ! (2 ∷ 1 ∷ []) $ fjoin ! $ move ! (1 ∷ 0 ∷ []) $
        use2 𝓛 (‵ (Cells o (take i cs ++ c ∷ drop (suc i) cs))) (glue (take i cs) (c ∷ drop (suc i) cs) o (i * s + o) (before (omega arith))) $
        rewrite ! 0 (λ (l : List (Option T.Denot)). ‵ (Cells o l)) (sym (set_split cs i c lt)) refl $ done !

  pub of_room : (n o : ℕ) → ent 𝓤 (H.room (ty_array (lone T.mir) n) b o) (sem 𝓛 (Cells o (replicate n None)))
  of_room zero o = qed 𝓛 (‵ (froom (ty_array (lone T.mir) 0) b o) ∷ []) ∵ keep ! [] $ done !
  of_room (suc n) o = qed 𝓛 (‵ (froom (ty_array (lone T.mir) (suc n)) b o) ∷ []) ∵
      use1 𝓛 (‵ (froom (lone T.mir) b o) ⊛ ‵ (froom (ty_array (lone T.mir) n) b (o + s))) (𝓛.laws.room_uncons (lone T.mir) n b o) $ split ! $
      use1 𝓛 (‵ (slot T b o None)) (𝓛.laws.room-raw (lone T.mir) b o) $ frame ! $ by ! (of_room n (o + s))

  pub to_room : (n o : ℕ) → ent 𝓤 (sem 𝓛 (Cells o (replicate n None))) (H.room (ty_array (lone T.mir) n) b o)
  to_room zero o = 𝓛.laws.room_nil (lone T.mir) b o
  to_room (suc n) o = qed 𝓛 (‵ (slot T b o None) ∷ ‵ (Cells (o + s) (replicate n None)) ∷ []) ∵
      use1 𝓛 (‵ (froom (lone T.mir) b o)) (𝓛.laws.raw-room (lone T.mir) b o) $ move ! (1 ∷ []) $
      use1 𝓛 (‵ (froom (ty_array (lone T.mir) n) b (o + s))) (to_room n (o + s)) $ move ! (1 ∷ []) $ by ! (𝓛.laws.room_cons (lone T.mir) n b o)

  module _ (κ : Lft) where
    abbrev Seen : ℕ → List (Option T.Denot) → Fml
    Seen o cs = slots_lent T b o cs κ

    up_to : (xs : List T.Denot) (rest : List (Option T.Denot)) (o : ℕ) → ent 𝓤 (sem 𝓛 (Seen o (map Some xs ++ rest))) (sem 𝓛 (elements_shared T xs b o κ))
    up_to [] rest o = qed 𝓛 (‵ (Seen o rest) ∷ []) ∵ keep ! [] $ done !
    up_to (x ∷ xs) rest o = mono_r 𝓤 (sem 𝓛 (slot_lent T b o (Some x) κ)) (up_to xs rest (o + s))

    -- the first values
    pub front_seen : (o : ℕ) (cs : List (Option T.Denot)) (n : ℕ) (xs : List T.Denot) → take n cs ≡ map Some xs → ent 𝓤 (sem 𝓛 (Seen o cs)) (sem 𝓛 (elements_shared T xs b o κ))
    front_seen o cs n xs e = qed 𝓛 (‵ (Seen o cs) ∷ []) ∵
        rewrite ! 0 (λ (l : List (Option T.Denot)). ‵ (Seen o l)) (sym (take-append-drop n cs) ∙ ap (λ l. l ++ drop n cs) e) refl $ by ! (up_to xs (drop n cs) o)
