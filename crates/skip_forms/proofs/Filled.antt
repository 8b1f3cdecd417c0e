-- A local array of n numbers u32: written whole with zeros, it is a row of elements, which are stored one by one; and the row is read whole again. Each is said for any n. Assumes nothing.
use mathlib.Core.Path.{◌≡◌, refl}
use Prim.Native.Nat.{ℕ, zero, suc}
use mathlib.Core.List.{List, [], ◌∷◌}
use lib.Dec.{T as Holds, lit<}
use lib.ListN.{length, replicate, length-replicate}
use seplogic.Ra.Ura.{Ura}
use base.Fraction.{full_share}
use mir.Syntax.{Ty, w32, ty_int, ty_array}
use mir.Val.{Val, WT, has_ty, vint}
use base.Logic.{ent, sep}
use base.Fml.{fsep, fat}
use types.Logic.{Logic, sem}
use types.Kit.{‵, ◌$◌, ◌∵◌, !, qed, move, drop, use1, rewrite, fsplit, fjoin, fpick, fpack, feq_i, frame, done}
use types.Share.{arr_parts}
use denote.Laws.{Is, shows}
use denote.Shadow.{shadow}
use denote.Memory.{cell_at, part_at, shares, part_of}
use denote.Array.{Array, each, array_val, array_vals, Array-Tells, Array-Typed, Array-Makes}
use denote.ArrayMemory.{Array-apart, Array-whole}
use denote.Index.{row}
use denote.Plain.{uint_vals, uint_Tells, uint_Lawful, uint_Makes}
use denote.Builtin.{u32}
use denote.Steps.{only, owned, peeks}

abbrev pub array_ty : ℕ → Ty
array_ty n = ty_array (ty_int w32) n

-- the machine value of the array of ys
abbrev pub whole : List ℕ → Val
whole ys = only (array_vals (uint_vals w32) ys)

abbrev pub zeros : ℕ → Val
zeros n = array_val (replicate n (vint w32 0))

each_zero : (n : ℕ) → shadow (each ℕ u32.own_val (replicate n 0) (replicate n (vint w32 0)))
each_zero zero = tt
each_zero (suc n) = ((refl, lit< tt), each_zero n)

zeros_are : (n : ℕ) → Is (Array u32 n) (replicate n 0) (zeros n ∷ [])
zeros_are n = (replicate n (vint w32 0), ((refl, length-replicate n 0), each_zero n))

module _ {M : Type 1} {𝓤 : Ura M} (𝓛 : Logic 𝓤) (n : ℕ) where
  open 𝓛 use {H}

  pub is_typed : (ys : List ℕ) (v : Val) → Is (Array u32 n) ys (v ∷ []) → Holds (has_ty (array_ty n) v) × WT v
  is_typed ys v p = (Array-Typed u32 (uint_Lawful 𝓛 w32).typed n ys (v ∷ []) p).0

  pub zeros_typed : Holds (has_ty (array_ty n) (zeros n)) × WT (zeros n)
  zeros_typed = is_typed (replicate n 0) (zeros n) (zeros_are n)

  pub zeros_row : (l : ℕ) → ent 𝓤 (H.at full_share (array_ty n) l 0 (zeros n)) (sem 𝓛 (row u32 full_share (replicate n 0) l 0))
  unfolding part_of
  zeros_row l =
      qed 𝓛 (‵ (fat full_share (array_ty n) l 0 (zeros n)) ∷ []) ∵
      owned ! (Array u32 n) (Is (Array u32 n)) (Array-Makes 𝓛 u32 (uint_Makes 𝓛 w32) n) (replicate n 0) (zeros n ∷ []) (zeros_are n) $
      move ! (1 ∷ 0 ∷ []) $ fjoin ! $ fpack ! (List Val) (λ vs. fsep (cell_at full_share (array_ty n ∷ []) vs l 0) ((Array u32 n).own_val (replicate n 0) vs)) (zeros n ∷ []) $
      use1 𝓛 (‵ ((arr_parts (shares u32) n).part full_share (replicate n 0) l 0)) (Array-apart 𝓛 u32 full_share tt n (replicate n 0) l 0) $ fsplit ! $ drop ! $ done !

  pub row_whole : (ys : List ℕ) (l : ℕ) → length ys ≡ n → ent 𝓤 (sem 𝓛 (row u32 full_share ys l 0)) (sep 𝓤 (H.at full_share (array_ty n) l 0 (whole ys)) (sem 𝓛 ((Array u32 n).own_val ys (whole ys ∷ []))))
  unfolding part_of
  row_whole ys l e =
      qed 𝓛 (‵ (row u32 full_share ys l 0) ∷ []) ∵ feq_i ! ℕ (length ys) n e $ fjoin ! $
      use1 𝓛 (‵ (part_at (Array u32 n) full_share ys l 0)) (Array-whole 𝓛 u32 full_share n ys l 0) $ fpick ! (λ vs. fsplit ! $ move ! (1 ∷ []) $
      peeks ! (Array u32 n) (Is (Array u32 n)) (shows 𝓛 (Array u32 n)) ys vs (λ p.
      let told = Array-Tells u32 (uint_vals w32) (uint_Tells w32) n ys vs p in
      rewrite ! 0 (λ (us : List Val). ‵ ((Array u32 n).own_val ys us)) told refl $
      rewrite ! 1 (λ (us : List Val). ‵ (cell_at full_share (array_ty n ∷ []) us l 0)) told refl $ move ! (1 ∷ 0 ∷ []) $ frame ! $ done !))
