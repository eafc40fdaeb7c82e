-- A patch's elements, read one after another.
use Rattle.std.proofs.Common.{◌≡◌, ◌<◌, ◌≤◌, ◌+◌, ℕ, zero, suc, List, [], ◌∷◌, ◌++◌, length, drop, get_or, Some, refl, sym, ap, ◌∙◌, subst, arith, append_assoc, append-nil, length-append}
use Rattle.std.proofs.lemmas.List.{drop_more}
use Rattle.std.proofs.lemmas.Option.{none-some}
use Rattle.std.specs.Prelude.{codes}
use Rattle.json.specs.Json as json
use Rattle.json.specs.Json.{Json, null, boolean, number, string, array, object, Items, no_items, item}
use Rattle.json.specs.Tree.{items_depth}
use Rattle.json_patch_operation.specs.PatchValue.{OfKind, OfRefusal, RefusesItem, RefusesOperation, RefusesPatch}
use Rattle.json_patch_operation.specs.declared.read_error.ReadKind.{ReadKind}
use Rattle.json_patch_text.specs.Operations.{TreeOperation, under, ReadsTrees, ReadsTreePatch}
use Rattle.json_patch_operation.specs.declared.read_error.ReadFault.{ReadFault}
use Rattle.json_patch_operation.specs.declared.read_error.ReadFault.TheVariants as f
use Rattle.json_patch_text.specs.Outline.{IsRead, IsReadAs, IsReadPatch, at_number}
use Rattle.json_patch_text.specs.TextOperations.{AreWrittenAs, HasValueAt, HaveValuesIn, IsWrittenAs}
use Rattle.json_patch_text.specs.declared.operation.TextOperation.{TextOperation}
use Rattle.json_patch_text.proofs.Patches.{operation_read}
use Rattle.json_patch_text.proofs.Written.{one_more, value_below}
use Rattle.jsonptr.specs.Places.{decimal_token}
use Rattle.json_reading.specs.Reading.{Reading}
use Rattle.json_reading.specs.Trees.{data_of, elements_of}
use Rattle.json_text.specs.Listing.{Texts, AreStretchesIn, AreStretchesOfElements, AreTextsIn, AreTextsOfElements, shape_of}
use Rattle.json_text.specs.declared.listing.Shape.TheVariants.{Array}
use Rattle.json_lexemes.specs.Spelled.{IsShallowText}

begins : (text : List ℕ) (js : Items) (es : List Texts) → AreTextsOfElements es js → AreStretchesOfElements text (array js) zero es → items_depth js ≤ json.max_depth → IsRead text js es [] 0
begins text js es h stretches low = record { rest = js; texts = h; shallow = low; done = []; written = tt; reads = λ more r. r; refuses = λ r k kind f. let e : k ≡ 0 + k = omega arith in subst (λ m. RefusesItem (elements_of r js) m kind) e f; count = refl; stretches = stretches; values = λ k o e. absurd (none-some o e) }

-- of an array all elements are ahead
pub none_read : (text : List ℕ) (p : Json) (es : List Texts) (os : List TextOperation) → IsShallowText text p → shape_of p ≡ Array → AreTextsIn p es → AreStretchesIn text p es → os ≡ [] → IsReadPatch text p es os 0
none_read text (array js) es os says shape h stretches is = (js, refl, subst (λ x. IsRead text js es x 0) (sym is) (begins text js es h stretches (omega (arith, says.1))))
none_read text null es os says shape h stretches is = cc
none_read text (boolean b) es os says shape h stretches is = cc
none_read text (number s) es os says shape h stretches is = cc
none_read text (string s) es os says shape h stretches is = cc
none_read text (object ms) es os says shape h stretches is = cc

both_written : (os : List TextOperation) (ops : List TreeOperation) (o : TextOperation) (op : TreeOperation) → AreWrittenAs os ops → IsWrittenAs o op → AreWrittenAs (os ++ o ∷ []) (ops ++ op ∷ [])
both_written [] [] o op h g = (g, tt)
both_written [] (p ∷ ops) o op h g = absurd h
both_written (x ∷ os) [] o op h g = absurd h
both_written (x ∷ os) (p ∷ ops) o op h g = (h.0, both_written os ops o op h.1 g)

-- what is said of an operation's text
abbrev pub Reads : List ℕ → TextOperation → Type 0
Reads text o = (j : Json) → IsShallowText text j → IsReadAs text j o

abbrev pub Refused : List ℕ → ReadKind → Type 0
Refused text kind = (j : Json) → IsShallowText text j → (r : Reading) → RefusesOperation (data_of r j) kind

next_read : (text : List ℕ) (js : Items) (e : Texts) (es : List Texts) (os new : List TextOperation) (o : TextOperation) (n : ℕ) → IsRead text js (e ∷ es) os n → Reads e.1.now o → new ≡ os ++ o ∷ [] → IsRead text js es new (n + 1)
next_read text js e es os new o n h read is = by h.rest h.texts h.shallow h.reads h.refuses
  where
    by : (rest : Items) → AreTextsOfElements (e ∷ es) rest → items_depth rest ≤ json.max_depth → ((more : List TreeOperation) → ReadsTrees rest more → ReadsTrees js (h.done ++ more))
        → ((r : Reading) (k : ℕ) (kind : ReadKind) → RefusesItem (elements_of r rest) k kind → RefusesItem (elements_of r js) (n + k) kind) → IsRead text js es new (n + 1)
    by no_items texts low reads refuses = absurd texts
    by (item v more) texts low reads refuses =
        let (op, fields, written, value) = read v (texts.1.0, omega (arith, low)) in
        let number : n ≡ length os = sym h.count in
        let next : suc n ≡ n + 1 = omega arith in
        record {
          rest = more;
          texts = texts.2;
          shallow = omega (arith, low);
          done = h.done ++ op ∷ [];
          written = subst (λ x. AreWrittenAs x (h.done ++ op ∷ [])) (sym is) (both_written os h.done o op h.written written);
          reads = λ ops g. subst (ReadsTrees js) (sym (append_assoc h.done (op ∷ []) ops)) (reads (op ∷ ops) (fields, g));
          refuses = λ r k kind f. let e : n + suc k ≡ n + 1 + k = omega arith in subst (λ m. RefusesItem (elements_of r js) m kind) e (refuses r (suc k) kind (under r op, operation_read r v op fields, f));
          count = ap length is ∙ length-append os (o ∷ []) ∙ ap (λ m. m + 1) h.count;
          stretches = subst (λ m. AreStretchesOfElements text (array js) m es) next h.stretches.1;
          values = subst (HaveValuesIn text (array js)) (sym is)
              (one_more (λ k x. HasValueAt text (array js) (decimal_token k ∷ codes "value" ∷ []) x) os o h.values
              (subst (λ k. HasValueAt text (array js) (decimal_token k ∷ codes "value" ∷ []) o) number (value_below text e.1.now (array js) v (decimal_token n) (codes "value" ∷ []) o h.stretches.0 texts.1.0 value)));
        }

ahead : (text : List ℕ) (js : Items) (es : List Texts) (i : ℕ) (e : Texts) (os : List TextOperation) → i < length es → e ≡ get_or es i e → IsRead text js (drop i es) os i → IsRead text js (e ∷ drop (i + 1) es) os i
ahead text js es i e os low at h = subst (λ x. IsRead text js x os i) (drop_more es i e low ∙ ap (λ x. x ∷ drop (i + 1) es) (sym at)) h

pub element_read : (text : List ℕ) (p : Json) (es : List Texts) (i : ℕ) (e : Texts) (os new : List TextOperation) (o : TextOperation) → IsReadPatch text p (drop i es) os i → i < length es → e ≡ get_or es i e → Reads e.1.now o → new ≡ os ++ o ∷ [] → IsReadPatch text p (drop (i + 1) es) new (i + 1)
element_read text p es i e os new o (js, at, h) low is read pushed = (js, at, next_read text js e (drop (i + 1) es) os new o i (ahead text js es i e os low is h) read pushed)

refused_first : (text : List ℕ) (js : Items) (e : Texts) (es : List Texts) (os : List TextOperation) (n : ℕ) (kind : ReadKind) (r : Reading) → IsRead text js (e ∷ es) os n → Refused e.1.now kind → RefusesItem (elements_of r js) n kind
refused_first text js e es os n kind r h refused = by h.rest h.texts h.shallow h.refuses
  where
    by : (rest : Items) → AreTextsOfElements (e ∷ es) rest → items_depth rest ≤ json.max_depth → ((r : Reading) (k : ℕ) (kind : ReadKind) → RefusesItem (elements_of r rest) k kind → RefusesItem (elements_of r js) (n + k) kind) → RefusesItem (elements_of r js) n kind
    by no_items texts low refuses = absurd texts
    by (item v more) texts low refuses =
        let e : n + 0 ≡ n = omega arith in subst (λ m. RefusesItem (elements_of r js) m kind) e (refuses r 0 kind (refused v (texts.1.0, omega (arith, low)) r))

pub element_refused : (text : List ℕ) (p : Json) (es : List Texts) (i : ℕ) (e : Texts) (os : List TextOperation) (kind : ReadKind) (r : Reading) → IsReadPatch text p (drop i es) os i → i < length es → e ≡ get_or es i e → Refused e.1.now kind → RefusesPatch (data_of r p) (Some i) kind
element_refused text p es i e os kind r (js, at, h) low is refused =
    subst (λ x. RefusesPatch (data_of r x) (Some i) kind) (sym at) (refused_first text js e (drop (i + 1) es) os i kind r (ahead text js es i e os low is h) refused)

pub all_read : (text : List ℕ) (p : Json) (es : List Texts) (os : List TextOperation) (n : ℕ) → IsReadPatch text p es os n → es ≡ [] → (ops : List TreeOperation) × ReadsTreePatch p ops × AreWrittenAs os ops × HaveValuesIn text p os
all_read text p es os n (js, at, h) none = (h.done, subst (λ x. ReadsTreePatch x h.done) (sym at) (subst (ReadsTrees js) (append-nil h.done) (h.reads [] (nothing h.rest (subst (λ x. AreTextsOfElements x h.rest) none h.texts)))), h.written, subst (λ x. HaveValuesIn text x os) (sym at) h.values)
  where
    nothing : (rest : Items) → AreTextsOfElements [] rest → ReadsTrees rest []
    nothing no_items t = tt
    nothing (item v more) t = absurd t

pub numbered_refusal : (text : List ℕ) (p : Json) (es : List Texts) (i : ℕ) (e : Texts) (os : List TextOperation) (fault : ReadFault) → IsReadPatch text p (drop i es) os i → i < length es → e ≡ get_or es i e → OfKind (Refused e.1.now) fault → OfRefusal (λ x. (r : Reading) → RefusesPatch (data_of r p) x.operation x.kind) (at_number i fault)
numbered_refusal text p es i e os (f.Refused x) h low is refused = λ r. element_refused text p es i e os x.kind r h low is refused.1
numbered_refusal text p es i e os (f.Memory x) h low is refused = tt
