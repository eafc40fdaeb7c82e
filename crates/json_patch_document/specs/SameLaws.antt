-- Equality of values is an equivalence, and it is what the test says.
use Rattle.std.proofs.Common.{◌≡◌, ◌&&◌, Bool, true, false, bytes_eq, refl, sym, ◌∙◌}
use Rattle.std.specs.Bool.{Decides}
use Rattle.std.proofs.lemmas.Bool.Decides.{Decides-int_eq, Decides-eqb, Decides-and}
use Rattle.std.proofs.lemmas.Slice.Eq.{bytes_eq-Decides}
use Rattle.serde_json.specs.Data.{Num, unsigned, negative, float, Data, null, boolean, number, string, array, object, Items, no_items, item, Members, no_members, member}
use Rattle.json_patch_document.specs.Same.{AreSameNumbers, AreSame, AreSameItems, AreSameMembers}
use Rattle.json_patch_document.specs.SameComputed.{same_bool, same_num, same, same_items, same_members}

numbers-refl : (m : Num) → AreSameNumbers m m
numbers-refl (unsigned m) = refl
numbers-refl (negative y) = refl
numbers-refl (float x) = tt

mutual
  pub AreSame-refl : (d : Data) → AreSame d d
  AreSame-refl null = tt
  AreSame-refl (boolean b) = refl
  AreSame-refl (number m) = numbers-refl m
  AreSame-refl (string s) = refl
  AreSame-refl (array ds) = items-refl ds
  AreSame-refl (object ms) = members-refl ms

  items-refl : (ds : Items) → AreSameItems ds ds
  items-refl no_items = tt
  items-refl (item d ds) = (AreSame-refl d, items-refl ds)

  members-refl : (ms : Members) → AreSameMembers ms ms
  members-refl no_members = tt
  members-refl (member k d ms) = (refl, AreSame-refl d, members-refl ms)

numbers-sym : (m n : Num) → AreSameNumbers m n → AreSameNumbers n m
numbers-sym (unsigned m) (unsigned n) h = sym h
numbers-sym (negative y) (negative z) h = sym h
numbers-sym (float x) (float y) h = tt
numbers-sym _ _ h = absurd h

mutual
  pub AreSame-sym : (d e : Data) → AreSame d e → AreSame e d
  AreSame-sym null null h = tt
  AreSame-sym (boolean b) (boolean c) h = sym h
  AreSame-sym (number m) (number n) h = numbers-sym m n h
  AreSame-sym (string s) (string t) h = sym h
  AreSame-sym (array ds) (array es) h = items-sym ds es h
  AreSame-sym (object ms) (object ns) h = members-sym ms ns h
  AreSame-sym _ _ h = absurd h

  items-sym : (ds es : Items) → AreSameItems ds es → AreSameItems es ds
  items-sym no_items no_items h = tt
  items-sym (item d ds) (item e es) h = (AreSame-sym d e h.0, items-sym ds es h.1)
  items-sym _ _ h = absurd h

  members-sym : (ms ns : Members) → AreSameMembers ms ns → AreSameMembers ns ms
  members-sym no_members no_members h = tt
  members-sym (member k d ms) (member l e ns) h = (sym h.0, AreSame-sym d e h.1, members-sym ms ns h.2)
  members-sym _ _ h = absurd h

numbers-trans : (l m n : Num) → AreSameNumbers l m → AreSameNumbers m n → AreSameNumbers l n
numbers-trans (unsigned l) (unsigned m) (unsigned n) h k = h ∙ k
numbers-trans (negative x) (negative y) (negative z) h k = h ∙ k
numbers-trans (float x) (float y) (float z) h k = tt
numbers-trans (unsigned l) (unsigned m) _ h k = absurd k
numbers-trans (negative x) (negative y) _ h k = absurd k
numbers-trans (float x) (float y) _ h k = absurd k
numbers-trans _ _ _ h k = absurd h

mutual
  pub AreSame-trans : (d e f : Data) → AreSame d e → AreSame e f → AreSame d f
  AreSame-trans null null f h k = k
  AreSame-trans (boolean a) (boolean b) (boolean c) h k = h ∙ k
  AreSame-trans (number l) (number m) (number n) h k = numbers-trans l m n h k
  AreSame-trans (string s) (string t) (string u) h k = h ∙ k
  AreSame-trans (array ds) (array es) (array fs) h k = items-trans ds es fs h k
  AreSame-trans (object ls) (object ms) (object ns) h k = members-trans ls ms ns h k
  AreSame-trans (boolean a) (boolean b) _ h k = absurd k
  AreSame-trans (number l) (number m) _ h k = absurd k
  AreSame-trans (string s) (string t) _ h k = absurd k
  AreSame-trans (array ds) (array es) _ h k = absurd k
  AreSame-trans (object ls) (object ms) _ h k = absurd k
  AreSame-trans _ _ _ h k = absurd h

  items-trans : (ds es fs : Items) → AreSameItems ds es → AreSameItems es fs → AreSameItems ds fs
  items-trans no_items no_items fs h k = k
  items-trans (item d ds) (item e es) (item f fs) h k = (AreSame-trans d e f h.0 k.0, items-trans ds es fs h.1 k.1)
  items-trans (item d ds) (item e es) _ h k = absurd k
  items-trans _ _ _ h k = absurd h

  members-trans : (ls ms ns : Members) → AreSameMembers ls ms → AreSameMembers ms ns → AreSameMembers ls ns
  members-trans no_members no_members ns h k = k
  members-trans (member i d ls) (member j e ms) (member k f ns) g h =
      (g.0 ∙ h.0, AreSame-trans d e f g.1 h.1, members-trans ls ms ns g.2 h.2)
  members-trans (member i d ls) (member j e ms) _ g h = absurd h
  members-trans _ _ _ g h = absurd g

same_bool-Decides : (b c : Bool) → Decides (same_bool b c) (b ≡ c)
same_bool-Decides true c = (λ h. sym h, λ h. sym h)
same_bool-Decides false true = (λ h. cc, λ h. cc)
same_bool-Decides false false = (λ h. refl, λ h. refl)

same_num-Decides : (m n : Num) → Decides (same_num m n) (AreSameNumbers m n)
same_num-Decides (unsigned m) (unsigned n) = Decides-eqb m n
same_num-Decides (negative y) (negative z) = Decides-int_eq y z
same_num-Decides (float x) (float y) = (λ h. tt, λ h. refl)
same_num-Decides _ _ = (λ h. cc, λ h. absurd h)

mutual
  pub same-Decides : (d e : Data) → Decides (same d e) (AreSame d e)
  same-Decides null null = (λ h. tt, λ h. refl)
  same-Decides (boolean b) (boolean c) = same_bool-Decides b c
  same-Decides (number m) (number n) = same_num-Decides m n
  same-Decides (string s) (string t) = bytes_eq-Decides s t
  same-Decides (array ds) (array es) = items-Decides ds es
  same-Decides (object ms) (object ns) = members-Decides ms ns
  same-Decides _ _ = (λ h. cc, λ h. absurd h)

  items-Decides : (ds es : Items) → Decides (same_items ds es) (AreSameItems ds es)
  items-Decides no_items no_items = (λ h. tt, λ h. refl)
  items-Decides (item d ds) (item e es) = Decides-and (same d e) (same_items ds es) (same-Decides d e) (items-Decides ds es)
  items-Decides _ _ = (λ h. cc, λ h. absurd h)

  members-Decides : (ms ns : Members) → Decides (same_members ms ns) (AreSameMembers ms ns)
  members-Decides no_members no_members = (λ h. tt, λ h. refl)
  members-Decides (member k d ms) (member l e ns) =
      let rest = Decides-and (same d e) (same_members ms ns) (same-Decides d e) (members-Decides ms ns) in
      let all = Decides-and (bytes_eq k l) (same d e && same_members ms ns) (bytes_eq-Decides k l) rest in
      (λ h. let got = all.0 h in (got.0, got.1.0, got.1.1), λ h. all.1 (h.0, (h.1, h.2)))
  members-Decides _ _ = (λ h. cc, λ h. absurd h)
