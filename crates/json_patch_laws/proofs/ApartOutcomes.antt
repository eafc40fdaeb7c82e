-- Which changes act at or below a pointer, and pointers that diverge.
use Rattle.json_patch_laws.proofs.Common.{◌≡◌, ℕ, List, [], ◌∷◌, ◌++◌, append_assoc, append-nil, append_cancel_left, Option}
use Rattle.json_patch_laws.proofs.Common.{Some, None, option_map, option_and_then, refl, sym, ap, ◌∙◌, subst, rules, IfSome}
use Rattle.json_patch_laws.proofs.Common.{Bool, true, false, bytes_eq, if◌then◌else◌, bytes_eq-Decides, is_some, Data}
use Rattle.json_patch_laws.proofs.Common.{object, array, IsDocument, Segment, key, child, segment_of, set_child}
use Rattle.json_patch_laws.proofs.Common.{after_change, after_add, after_remove, after_replace, put_in, take_from, front_of}
use Rattle.json_patch_laws.proofs.Common.{last_of, place_of, without, next_token, Pointer, IsPrefix}
use Rattle.std.specs.Prelude.{◌||◌}
use Rattle.json_patch_apart.specs.Apart.{may_be_place, reach, Diverge, DivergesFrom}
use Rattle.json_patch_edit.proofs.Locations.{option_map_some, split_whole, split_is}
use Rattle.json_patch_edit.proofs.Alterations.{IsAltered, altered_is}
use Rattle.json_patch_edit.proofs.Slots.{put_in_puts}
use Rattle.json_patch_edit.proofs.Changes.{TakesIn, take_from_takes, drop_document}
use Rattle.json_patch_edit.proofs.Alterations.{altered_append}
use Rattle.json_patch_edit.proofs.BlocksLeadBack.{added_at, removed_at}
use Rattle.json_patch_laws.proofs.ApartChanges.{IsLocal, onto, write, Acts, Fork}

-- ---- changes that are all at or below a pointer

abbrev pub Keeps : (Data → Option Data) → Type 0
Keeps f = (d e : Data) → IsDocument d → f d ≡ Some e → IsDocument e

altered_keeps : (f : Data → Option Data) (P : Pointer) → Keeps f → Keeps (λ d. after_change f d P)
altered_keeps f P keep d e hd is =
    let a : IsAltered f d P e = altered_is f d P e is in a.keeps hd (λ hp. keep a.p a.q hp a.result)

-- what f below A makes of the child
abbrev below : (Data → Option Data) → Pointer → Option Data → Option (Option Data)
below f A o = option_and_then (λ c. option_map (λ e. Some e) (after_change f c A)) o

below_keeps : (f : Data → Option Data) (A : Pointer) → Keeps f → (c o : Option Data) → IfSome c IsDocument → below f A c ≡ Some o → IfSome o IsDocument
below_keeps f A keep None o hc is = cc
below_keeps f A keep (Some c) o hc is =
    option_map_some (λ e. Some e) (after_change f c A) o is (λ e at whole. subst (λ x. IfSome x IsDocument) whole (altered_keeps f A keep c e hc at))

below_step : (d : Data) (s : Segment) (o : Option Data) (f : Data → Option Data) (A : Pointer) → option_and_then (λ c. option_map (λ e. set_child s e d) (after_change f c A)) o ≡ option_map (λ x. write s x d) (below f A o)
below_step d s None f A = refl
below_step d s (Some c) f A = on (after_change f c A)
  where
    on : (x : Option Data) → option_map (λ e. set_child s e d) x ≡ option_map (λ x. write s x d) (option_map (λ e. Some e) x)
    on None = refl
    on (Some e) = refl

pub below_local : (f : Data → Option Data) (t : List ℕ) (A : Pointer) → Keeps f → IsLocal t (λ d. after_change f d (t ∷ A))
below_local f t A keep = record {
  h = below f A;
  keeps = below_keeps f A keep;
  is = λ d. on d (segment_of d t);
}
  where
    on : (d : Data) (x : Option Segment) → option_and_then (λ s. option_and_then (λ c. option_map (λ e. set_child s e d) (after_change f c A)) (child s d)) x ≡ option_and_then (λ s. option_map (λ o. write s o d) (below f A (child s d))) x
    on d None = refl
    on d (Some s) = below_step d s (child s d) f A

pub altered_acts : (f : Data → Option Data) (P : Pointer) → Keeps f → Acts (λ d. after_change f d P) P
altered_acts f P keep = record {
  at = λ S t A is. (
    (λ c. after_change f c (t ∷ A)),
    below_local f t A keep,
    λ d. ap (after_change f d) is ∙ altered_append f d S (t ∷ A),
  );
}

-- ---- a member put or taken out, by a token that names no index

not_both : (a b : Bool) → a || b ≡ false → (a ≡ false) × (b ≡ false)
not_both a b h = search rules

no_place : (o : Option ℕ) → is_some o ≡ false → o ≡ None
no_place o h = search rules

-- the token is of a member alone
record IsName (t : List ℕ) : Type 0 where
  other : bytes_eq t next_token ≡ false
  none : place_of t ≡ None

is_name : (t : List ℕ) → may_be_place t ≡ false → IsName t
is_name t h =
    let b : (bytes_eq t next_token ≡ false) × (is_some (place_of t) ≡ false) = not_both (bytes_eq t next_token) (is_some (place_of t)) h in
    record { other = b.0; none = no_place (place_of t) b.1 }

put_onto : (v : Data) (t : List ℕ) → IsName t → (d : Data) → put_in v t d ≡ onto (λ o. Some (Some v)) t d d
put_onto v t n (array ds) = rw (n.other, n.none) refl
put_onto v t n d = search rules

put_local : (v : Data) (t : List ℕ) → IsName t → IsDocument v → IsLocal t (put_in v t)
put_local v t n hv = record {
  h = λ o. Some (Some v);
  keeps = λ c o hc is. (let e : Some v ≡ o = (let g : ◌≡◌ {A = Option (Option Data)} (Some (Some v)) (Some o) = is in cc) in subst (λ x. IfSome x IsDocument) e hv);
  is = put_onto v t n;
}

abbrev taken : Option Data → Option (Option Data)
taken o = option_map (λ c. None) o

take_onto : (t : List ℕ) → IsName t → (d : Data) → take_from t d ≡ onto taken t d d
take_onto t n (array ds) = rw n.none refl
take_onto t n (object ms) = on (child (key t) (object ms))
  where
    on : (o : Option Data) → option_map (λ c. object (without t ms)) o ≡ option_map (λ o. write (key t) o (object ms)) (taken o)
    on o = search rules
take_onto t n d = search rules

take_local : (t : List ℕ) → IsName t → IsLocal t (take_from t)
take_local t n = record {
  h = taken;
  keeps = λ c o hc is. none_whole c o is;
  is = take_onto t n;
}
  where
    none_whole : (c o : Option Data) → taken c ≡ Some o → IfSome o IsDocument
    none_whole None o is = cc
    none_whole (Some c) o is = let e : None ≡ o = (let g : ◌≡◌ {A = Option (Option Data)} (Some None) (Some o) = is in cc) in subst (λ x. IfSome x IsDocument) e tt

pub put_keeps : (v : Data) (t : List ℕ) → IsDocument v → Keeps (put_in v t)
put_keeps v t hv d e hd is = (put_in_puts v t d e is).keeps hd hv

pub take_keeps : (t : List ℕ) → Keeps (take_from t)
take_keeps t d e hd is = let i : TakesIn t d e = take_from_takes t d e is in subst IsDocument i.whole (drop_document i.s d hd)

-- S and a pointer that begins with t, split before the last token
joined_whole : (S : Pointer) (t : List ℕ) (A : Pointer) → S ++ t ∷ A ≡ (S ++ front_of t A) ++ last_of t A ∷ []
joined_whole S t A = ap (λ Q. S ++ Q) (split_whole t A) ∙ sym (append_assoc S (front_of t A) (last_of t A ∷ []))

added_below : (S : Pointer) (t : List ℕ) (A : Pointer) (v d : Data) → after_add d (S ++ t ∷ A) v ≡ after_change (λ c. after_add c (t ∷ A) v) d S
added_below S t A v d = ap (λ Q. after_add d Q v) (joined_whole S t A) ∙ added_at d (S ++ front_of t A) (last_of t A) v ∙ altered_append (put_in v (last_of t A)) d S (front_of t A)

removed_below : (S : Pointer) (t : List ℕ) (A : Pointer) (d : Data) → after_remove d (S ++ t ∷ A) ≡ after_change (λ c. after_remove c (t ∷ A)) d S
removed_below S t A d = ap (after_remove d) (joined_whole S t A) ∙ removed_at d (S ++ front_of t A) (last_of t A) ∙ altered_append (take_from (last_of t A)) d S (front_of t A)

last_joined : (S : Pointer) (t : List ℕ) (A : Pointer) (u : List ℕ) (P : Pointer) → u ∷ P ≡ S ++ t ∷ A → last_of u P ≡ last_of t A
last_joined S t A u P is = sym ((split_is u P (S ++ front_of t A) (last_of t A) (is ∙ joined_whole S t A)).1)

added_local : (v : Data) (t : List ℕ) (A : Pointer) → IsName (last_of t A) → IsDocument v → IsLocal t (λ c. after_add c (t ∷ A) v)
added_local v t [] n hv = put_local v t n hv
added_local v t (a ∷ A) n hv = below_local (put_in v (last_of a A)) t (front_of a A) (put_keeps v (last_of a A) hv)

removed_local : (t : List ℕ) (A : Pointer) → IsName (last_of t A) → IsLocal t (λ c. after_remove c (t ∷ A))
removed_local t [] n = take_local t n
removed_local t (a ∷ A) n = below_local (take_from (last_of a A)) t (front_of a A) (take_keeps (last_of a A))

-- ---- add and remove act at or below their reach, and replace at or below its pointer

root_acts : (C : Data → Option Data) → Acts C []
root_acts C = record { at = λ S t A is. absurd (no_split S t A is) }
  where
    no_split : (S : Pointer) (t : List ℕ) (A : Pointer) → [] ≡ S ++ t ∷ A → ⊥
    no_split [] t A is = cc
    no_split (s ∷ S) t A is = cc

pub reach_whole : (t : List ℕ) (P : Pointer) → reach (t ∷ P) ≡ (if may_be_place (last_of t P) then front_of t P else t ∷ P)
reach_whole t [] = refl
reach_whole t (u ∷ P) = ap (λ R. t ∷ R) (reach_whole u P) ∙ outside (may_be_place (last_of u P))
  where
    outside : (b : Bool) → t ∷ (if b then front_of u P else u ∷ P) ≡ (if b then t ∷ front_of u P else t ∷ u ∷ P)
    outside true = refl
    outside false = refl

pub add_acts : (P : Pointer) (v : Data) → IsDocument v → Acts (λ d. after_add d P v) (reach P)
add_acts [] v hv = root_acts (λ d. after_add d [] v)
add_acts (u ∷ P) v hv = subst (Acts (λ d. after_add d (u ∷ P) v)) (sym (reach_whole u P)) (on (may_be_place (last_of u P)) refl)
  where
    on : (b : Bool) → may_be_place (last_of u P) ≡ b → Acts (λ d. after_add d (u ∷ P) v) (if b then front_of u P else u ∷ P)
    on true is = altered_acts (put_in v (last_of u P)) (front_of u P) (put_keeps v (last_of u P) hv)
    on false is = record {
      at = λ S t A whole. (
        (λ c. after_add c (t ∷ A) v),
        added_local v t A (subst IsName (last_joined S t A u P whole) (is_name (last_of u P) is)) hv,
        λ d. ap (λ Q. after_add d Q v) whole ∙ added_below S t A v d,
      );
    }

pub remove_acts : (P : Pointer) → Acts (λ d. after_remove d P) (reach P)
remove_acts [] = root_acts (λ d. after_remove d [])
remove_acts (u ∷ P) = subst (Acts (λ d. after_remove d (u ∷ P))) (sym (reach_whole u P)) (on (may_be_place (last_of u P)) refl)
  where
    on : (b : Bool) → may_be_place (last_of u P) ≡ b → Acts (λ d. after_remove d (u ∷ P)) (if b then front_of u P else u ∷ P)
    on true is = altered_acts (take_from (last_of u P)) (front_of u P) (take_keeps (last_of u P))
    on false is = record {
      at = λ S t A whole. (
        (λ c. after_remove c (t ∷ A)),
        removed_local t A (subst IsName (last_joined S t A u P whole) (is_name (last_of u P) is)),
        λ d. ap (after_remove d) whole ∙ removed_below S t A d,
      );
    }

pub replace_acts : (P : Pointer) (v : Data) → IsDocument v → Acts (λ d. after_replace d P v) P
replace_acts P v hv = altered_acts (λ c. Some v) P (λ d e hd is. (let same : v ≡ e = (let g : ◌≡◌ {A = Option Data} (Some v) (Some e) = is in cc) in subst IsDocument same hv))

-- ---- where two pointers diverge

fork_over : (t : List ℕ) (P Q : Pointer) → Fork P Q → Fork (t ∷ P) (t ∷ Q)
fork_over t P Q k = record { S = t ∷ k.S; t = k.t; u = k.u; A = k.A; B = k.B; left = ap (λ R. t ∷ R) k.left; right = ap (λ R. t ∷ R) k.right; other = k.other }

pub fork : (P Q : Pointer) → Diverge P Q → Fork P Q
fork [] Q h = absurd (h.0 (Q, refl))
fork (t ∷ P) [] h = absurd (h.1 (t ∷ P, refl))
fork (t ∷ P) (u ∷ Q) h = on (λ k. fork P Q k) (bytes_eq t u) refl
  where
    on : (Diverge P Q → Fork P Q) → (b : Bool) → bytes_eq t u ≡ b → Fork (t ∷ P) (u ∷ Q)
    on more true is =
        let e : t ≡ u = (bytes_eq-Decides t u).0 is in
        subst (λ x. Fork (t ∷ P) (x ∷ Q)) e (fork_over t P Q (more (
          (λ p. h.0 (p.0, sym (ap (λ x. x ∷ Q) e) ∙ ap (λ R. t ∷ R) p.1)),
          (λ p. h.1 (p.0, ap (λ x. x ∷ P) e ∙ ap (λ R. u ∷ R) p.1)),
        )))
    on more false is = record { S = []; t = t; u = u; A = P; B = Q; left = refl; right = refl; other = λ e. (let g : bytes_eq t u ≡ true = (bytes_eq-Decides t u).1 e in cc) }

pub fork_back : (P Q : Pointer) → Fork P Q → Fork Q P
fork_back P Q k = record { S = k.S; t = k.u; u = k.t; A = k.B; B = k.A; left = k.right; right = k.left; other = λ e. k.other (sym e) }

-- ---- a longer pointer diverges from what a shorter one does

unfork : (P Q : Pointer) → Fork P Q → IsPrefix P Q → ⊥
unfork P Q k h =
    let e : k.S ++ k.u ∷ k.B ≡ k.S ++ (k.t ∷ k.A ++ h.0) = sym k.right ∙ h.1 ∙ ap (λ X. X ++ h.0) k.left ∙ append_assoc k.S (k.t ∷ k.A) h.0 in
    let f : k.u ∷ k.B ≡ k.t ∷ k.A ++ h.0 = append_cancel_left k.S (k.u ∷ k.B) (k.t ∷ k.A ++ h.0) e in
    k.other cc

pub diverge_longer : (P R Q : Pointer) → IsPrefix P R → Diverge P Q → Diverge R Q
diverge_longer P R Q h g =
    let k : Fork P Q = fork P Q g in
    let l : Fork R Q = record { S = k.S; t = k.t; u = k.u; A = k.A ++ h.0; B = k.B; left = h.1 ∙ ap (λ X. X ++ h.0) k.left ∙ append_assoc k.S (k.t ∷ k.A) h.0; right = k.right; other = k.other } in
    (unfork R Q l, unfork Q R (fork_back R Q l))

pub diverges_longer : (P R : Pointer) (Qs : List Pointer) → IsPrefix P R → DivergesFrom P Qs → DivergesFrom R Qs
diverges_longer P R [] h g = tt
diverges_longer P R (Q ∷ Qs) h g = (diverge_longer P R Q h g.0, diverges_longer P R Qs h g.1)

-- ---- the reach of a pointer begins it

pub itself : (P : Pointer) → IsPrefix P P
itself P = ([], sym (append-nil P))

pub reach_begins : (P : Pointer) → IsPrefix (reach P) P
reach_begins [] = itself []
reach_begins (t ∷ P) = subst (λ R. IsPrefix R (t ∷ P)) (sym (reach_whole t P)) (on (may_be_place (last_of t P)))
  where
    on : (b : Bool) → IsPrefix (if b then front_of t P else t ∷ P) (t ∷ P)
    on true = (last_of t P ∷ [], split_whole t P)
    on false = itself (t ∷ P)
