-- A loop over an object's members, each of which may add to the patch a member of its name.
use Rattle.json_patch_merge.proofs.Common.{◌≡◌, ◌≢◌, ℕ, List, ◌∷◌, ⊎_elim, Option, Some, None, string_bytes, refl, sym, ap, ◌∙◌, subst, rules}
use Rattle.json_patch_merge.proofs.Common.{Data, Members, member, put, get_member, view, members_view, Value, Entry, IsDocument, AreMembers}
use Rattle.json_patch_merge.proofs.Common.{String, Global, lookup, insert_entry, members_view-insert_entry, view-lookup, is_some, Bool, true, false}
use Rattle.std.proofs.Common.{string_cmp, option_map, unwrap_or, IfSome}
use Rattle.std.specs.Borrow.{Bor}
use Rattle.json_patch_document.proofs.Writes.{is_named}
use Rattle.json_merge_diff.specs.Least.{AreOfFirst, IsOfFirst}
use Rattle.json_patch_merge.proofs.MergeFills.{ChangesAt, changes_put, changes_nothing}
use Rattle.json_patch_merge.proofs.Merges.{name_cases}
use Rattle.json_patch_document.proofs.Members.{below_absent, found_first, skips}

-- of all the members some are left: at their names the patch has nothing yet, and at the others P holds
pub record Walks (P : List ℕ → Option Data → Type 0) (all now rest : Members) : Type 0 where
  pub members : AreMembers rest
  pub document : AreMembers now
  pub named : (k : List ℕ) (q : Data) → get_member k rest ≡ Some q → get_member k all ≡ Some q
  pub waiting : (k : List ℕ) (q : Data) → get_member k rest ≡ Some q → get_member k now ≡ None
  pub passed : (k : List ℕ) → get_member k rest ≡ None → P k (get_member k now)

module _ (P : List ℕ → Option Data → Type 0) (all now new ps : Members) (l : List ℕ) (q : Data) (o : Option Data) (h : Walks P all now (member l q ps)) (changes : ChangesAt l now new o) (here : P l o) where
  apart : (k : List ℕ) (p : Data) → get_member k ps ≡ Some p → k ≢ l
  apart k p is same = let e : get_member k ps ≡ None = ap (λ x. get_member x ps) same ∙ below_absent l ps h.members.0 in cc

  at_other : (k : List ℕ) → get_member k ps ≡ None → k ≢ l → P k (get_member k new)
  at_other k is other = subst (P k) (sym (changes.others k other)) (h.passed k (skips k l q ps other ∙ is))

  pub steps : Walks P all new ps
  steps = record {
    members = h.members.2;
    document = changes.document;
    named = λ k p is. h.named k p (skips k l q ps (apart k p is) ∙ is);
    waiting = λ k p is. changes.others k (apart k p is) ∙ h.waiting k p (skips k l q ps (apart k p is) ∙ is);
    passed = λ k is. ⊎_elim (λ (same : k ≡ l). subst (λ x. P x (get_member x new)) (sym same) (subst (P l) (sym changes.here) here)) (at_other k is) (name_cases k l);
  }

-- the entry e is next
steps_at : {P : List ℕ → Option Data → Type 0} {all now new : Members} {items rest : List Entry} (e : Entry)
    → items ≡ e ∷ rest → Walks P all now (members_view items)
    → (IsDocument (view e.1) → get_member (string_bytes e.0) all ≡ Some (view e.1) → get_member (string_bytes e.0) now ≡ None → (o : Option Data) × ChangesAt (string_bytes e.0) now new o × P (string_bytes e.0) o)
    → Walks P all new (members_view rest)
steps_at {P} {all} {now} {new} {items} {rest} e is_next before step =
    let h = subst (λ es. Walks P all now (members_view es)) is_next before in
    let l = string_bytes e.0 in
    let q = view e.1 in
    let found = found_first l q (members_view rest) in
    let s = step h.members.1 (h.named l q found) (h.waiting l q found) in
    steps P all now new (members_view rest) l q s.0 h s.1 s.2

-- the next entry gives the patch a member
pub adds : {P : List ℕ → Option Data → Type 0} {all : Members} {items rest : List Entry} (e : Entry) (es new : List Entry) (k : String Global) (v : Value)
    → items ≡ e ∷ rest → Walks P all (members_view es) (members_view items) → string_bytes k ≡ string_bytes e.0 → new ≡ insert_entry string_cmp es k v
    → (IsDocument (view e.1) → IsDocument (view v)) → (get_member (string_bytes e.0) all ≡ Some (view e.1) → P (string_bytes e.0) (Some (view v)))
    → Walks P all (members_view new) (members_view rest)
adds e es new k v next w named is hv fits =
    let put_in = ap members_view is ∙ members_view-insert_entry es k v ∙ ap (λ x. put x (view v) (members_view es)) named in
    steps_at e next w (λ hq here absent. (Some (view v), changes_put (string_bytes e.0) (view v) (members_view es) (members_view new) w.document (hv hq) put_in, fits here))

-- it gives none
pub goes_on : {P : List ℕ → Option Data → Type 0} {all now : Members} {items rest : List Entry} (e : Entry)
    → items ≡ e ∷ rest → Walks P all now (members_view items) → (get_member (string_bytes e.0) all ≡ Some (view e.1) → P (string_bytes e.0) None)
    → Walks P all now (members_view rest)
goes_on {now = now} e next w fits =
    steps_at e next w (λ hq here absent. (None, rw absent at (changes_nothing (string_bytes e.0) now now w.document refl), fits here))

-- ---- what the first alone has

pub either : (o : Option (Bor Value)) (x r : Bor Value) (q : Data) → r ≡ unwrap_or o x → q ≡ view r.now → q ≡ unwrap_or (option_map (λ v. view v.now) o) (view x.now)
either None x r q is same = rw (same, is) refl
either (Some y) x r q is same = rw (same, is) refl

pub either_document : (o : Option (Bor Value)) (x : Bor Value) (q : Data) → q ≡ unwrap_or (option_map (λ v. view v.now) o) (view x.now) → IfSome o (λ v. IsDocument (view v.now)) → IsDocument (view x.now) → IsDocument q
either_document None x q is ho hx = rw is hx
either_document (Some y) x q is ho hx = rw is ho

pub missing : (t name : List ℕ) (es : List Entry) (b : Bool) → t ≡ name → b ≡ is_some (lookup (is_named t) es) → b ≡ false → get_member name (members_view es) ≡ None
missing t name es b named tested is = sym (ap (λ k. get_member k (members_view es)) named) ∙ search (rules, view-lookup t es)

pub has_it : (f : Data → Data) (was now : Option Data) (q p : Data) → p ≡ f q → was ≡ Some q → now ≡ None → IsOfFirst f was now (Some p)
has_it f was now q p same is none = rw (is, none, same) refl

pub lacks_it : (f : Data → Data) (t name : List ℕ) (es : List Entry) (b : Bool) (was : Option Data) (q : Data) → t ≡ name → b ≡ is_some (lookup (is_named t) es) → b ≡ true → was ≡ Some q → IsOfFirst f was (get_member name (members_view es)) None
lacks_it f t name es b was q named tested is found = search (rules, view-lookup)

-- a walk over the second members begins with what is of the first alone
waits : (f : Data → Data) (was now o : Option Data) (q : Data) → now ≡ Some q → IsOfFirst f was now o → o ≡ None
waits f None now o q is h = h
waits f (Some c) None o q is h = cc
waits f (Some c) (Some e) o q is h = h

passes : (f : Data → Data) (M : Option Data → Option Data → Option Data → Type 0) → M None None None → ((c : Data) → M (Some c) None (Some (f c))) → (was now o : Option Data) → now ≡ None → IsOfFirst f was now o → M was now o
passes f M none lone None now o is h = rw (is, h) none
passes f M none lone (Some c) None o is h = rw h (lone c)
passes f M none lone (Some c) (Some e) o is h = cc

pub starts : (f : Data → Data) (M : Option Data → Option Data → Option Data → Type 0) → M None None None → ((c : Data) → M (Some c) None (Some (f c))) → (ms ns ps rest : Members) → rest ≡ ns → AreMembers ns → AreOfFirst f ms ns ps
    → Walks (λ k o. M (get_member k ms) (get_member k ns) o) ns ps rest
starts f M none lone ms ns ps rest is hn h = rw is (record {
  members = hn;
  document = h.0;
  named = λ k q e. e;
  waiting = λ k q e. waits f (get_member k ms) (get_member k ns) (get_member k ps) q e (h.1 k);
  passed = λ k e. passes f M none lone (get_member k ms) (get_member k ns) (get_member k ps) e (h.1 k);
})
