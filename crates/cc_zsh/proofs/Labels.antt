-- Different functions of a plain tree have different labels.
use Rattle.std.proofs.Common.{◌≡◌, ◌≢◌, ◌==◌, ◌&&◌, ◌||◌, ℕ, Bool, true, false, cond, IsTrue, List, [], ◌∷◌, ◌++◌, codes, refl, sym, ◌∙◌, ap, subst, inl, inr, append_assoc, append-nil, drop}
use Rattle.std.specs.Char.{is_ascii_alphanumeric}
use Rattle.std.specs.List.{AllByRecursion}
use Rattle.std.proofs.lemmas.Bool.{and_parts}
use Rattle.std.proofs.lemmas.List.{append_cancel_left, append_cancel_right}
use Rattle.std.proofs.lemmas.List.Concat.{flat_map-append}
use Rattle.cc_base.specs.Bytes.{dash, space, underscore}
use Rattle.cc_base.specs.Differ.{AllDifferBy}
use Rattle.cc_base.proofs.Differing.{AllDifferBy-append}
use Rattle.cc_base.proofs.Members.{IsIn, AllByRecursion-append, AllByRecursion-IsIn, AllByRecursion-weaker}
use Rattle.cc_command.specs.declared.node.Node.{Node}
use Rattle.cc_command.specs.Names.{full_name, joined_name, visible_names}
use Rattle.cc_command.specs.Plain.{is_plain_forest, siblings_differ}
use Rattle.cc_command.specs.Tree.{Forest, none, more, Tree, IsSibling}
use Rattle.cc_base.proofs.PlainNames.{plain_after, plain_after_start, plain_after_end, plain_after_more}
use Rattle.cc_command.proofs.PlainParts.{IsPlainName, plain_node, plain_more}
use Rattle.cc_command.proofs.SiblingNames.{not_shared, first_differs}
use Rattle.cc_zsh.specs.Functions.{Function, function_of, functions_below}
use Rattle.cc_quote.specs.Escapes.{replace_byte}
use Rattle.cc_zsh.specs.Nested.{function_label}
use Rattle.cc_zsh.proofs.OptionWords.{AreNameBytes, name_byte-differs}
use Rattle.cc_zsh.proofs.PlainNames.{plain_name_bytes}
use Rattle.cc_zsh.proofs.PlainTree.{IsNamed}

-- ---- where a plain name ends

-- nothing, or a text that begins with two underscores
data IsTail : List ℕ → Type 0 where
  tail_none : IsTail []
  tail_more : (text : List ℕ) → IsTail (underscore ∷ underscore ∷ text)

plain_step : (follows : Bool) (byte : ℕ) (name : List ℕ) → IsTrue (plain_after follows (byte ∷ name)) →
    IsTrue ((is_ascii_alphanumeric byte || (follows && (byte == dash || byte == underscore)))
    && plain_after (is_ascii_alphanumeric byte) name)
plain_step follows byte name h = subst IsTrue (plain_after_more follows byte name) h

plain_next : (follows : Bool) (byte : ℕ) (name : List ℕ) → IsTrue (plain_after follows (byte ∷ name)) →
    IsTrue (plain_after (is_ascii_alphanumeric byte) name)
plain_next follows byte name h =
    (and_parts (is_ascii_alphanumeric byte || (follows && (byte == dash || byte == underscore)))
    (plain_after (is_ascii_alphanumeric byte) name) (plain_step follows byte name h)).1

-- after an underscore no name ends, and no second underscore follows
not_ended : (name : List ℕ) (tail text : List ℕ) → IsTrue (plain_after false name) → IsTail tail →
    name ++ tail ≢ underscore ∷ text
not_ended [] tail text h of e = let ends : false ≡ true = sym (plain_after_end false) ∙ h in cc
not_ended (byte ∷ name) tail text h of e =
    let is : byte ≡ 95 = cc in
    let step : IsTrue ((is_ascii_alphanumeric 95 || (false && (underscore == dash || underscore == underscore)))
    && plain_after (is_ascii_alphanumeric 95) name) =
    subst (λ b. IsTrue ((is_ascii_alphanumeric b || (false && (b == dash || b == underscore)))
    && plain_after (is_ascii_alphanumeric b) name)) is (plain_step false byte name h) in
    let wrong : false ≡ true = step in cc

-- a longer name does not continue where another one ends
longer : (follows : Bool) (byte : ℕ) (name tail other : List ℕ) →
    IsTrue (plain_after follows (byte ∷ name)) → IsTail tail → IsTail other →
    (byte ∷ name) ++ tail ≢ other
longer follows byte name tail other h of tail_none e = cc
longer follows byte name tail other h of (tail_more text) e =
    let is : byte ≡ 95 = cc in
    let rest : name ++ tail ≡ underscore ∷ text = ap (drop 1) e in
    let after : IsTrue (plain_after (is_ascii_alphanumeric 95) name) =
    subst (λ b. IsTrue (plain_after (is_ascii_alphanumeric b) name)) is (plain_next follows byte name h) in
    not_ended name tail text after of rest

same_name : (follows : Bool) (name tail other rest : List ℕ) → IsTrue (plain_after follows name) →
    IsTrue (plain_after follows other) → IsTail tail → IsTail rest → name ++ tail ≡ other ++ rest →
    name ≡ other
same_name follows [] tail [] rest h k of by e = refl
same_name follows [] tail (byte ∷ other) rest h k of by e = absurd (longer follows byte other rest tail k by of (sym e))
same_name follows (byte ∷ name) tail [] rest h k of by e = absurd (longer follows byte name tail rest h of by e)
same_name follows (byte ∷ name) tail (first ∷ other) rest h k of by e =
    let is : byte ≡ first = cc in
    let e' : name ++ tail ≡ other ++ rest = ap (drop 1) e in
    let k' : IsTrue (plain_after (is_ascii_alphanumeric byte) other) =
    subst (λ b. IsTrue (plain_after (is_ascii_alphanumeric b) other)) (sym is) (plain_next follows first other k) in
    ap (λ b. b ∷ name) is ∙ ap (λ t. first ∷ t)
    (same_name (is_ascii_alphanumeric byte) name tail other rest (plain_next follows byte name h) k' of by e')

-- ---- full names as labels

abbrev stem : List ℕ → List ℕ
stem name = replace_byte 32 (codes "__subcmd__") name

stem-name : (name : List ℕ) → AreNameBytes name → stem name ≡ name
stem-name [] h = refl
stem-name (byte ∷ name) (h, hs) =
    ap (λ b. cond b (codes "__subcmd__") (byte ∷ []) ++ stem name) (name_byte-differs space byte refl h)
    ∙ ap (λ t. byte ∷ t) (stem-name name hs)

stem-joined : (parent name : List ℕ) → AreNameBytes name →
    stem (joined_name parent name) ≡ stem parent ++ (codes "__subcmd__" ++ name)
stem-joined parent name h =
    flat_map-append (λ byte. cond (byte == space) (codes "__subcmd__") (byte ∷ [])) (parent ++ codes " ") name
    ∙ ap (λ t. t ++ stem name)
    (flat_map-append (λ byte. cond (byte == space) (codes "__subcmd__") (byte ∷ [])) parent (codes " "))
    ∙ ap (λ t. (stem parent ++ codes "__subcmd__") ++ t) (stem-name name h)
    ∙ append_assoc (stem parent) (codes "__subcmd__") name

-- the label of the function begins with the label of a node's child with the given name
record Starts (parent name : List ℕ) (function : Function) : Type 0 where
  pub tail : List ℕ
  pub is_tail : IsTail tail
  pub is : stem function.name ≡ stem parent ++ (codes "__subcmd__" ++ (name ++ tail))

-- the function belongs to one of the siblings, or to a node below one
record StartsAmong (parent : List ℕ) (forest : Forest) (function : Function) : Type 0 where
  pub child : Tree
  pub sibling : IsSibling forest child
  pub plain : IsPlainName child.node.name
  pub starts : Starts parent child.node.name function

sub_tail : (text : List ℕ) → IsTail (codes "__subcmd__" ++ text)
sub_tail text = tail_more (codes "subcmd__" ++ text)

starts_own : (parent : List ℕ) (node : Node) (below : Forest) →
    full_name node ≡ joined_name parent node.name → AreNameBytes node.name →
    Starts parent node.name (function_of node below)
starts_own parent node below e h = record {
  tail = [];
  is_tail = tail_none;
  is = ap stem e ∙ stem-joined parent node.name h
      ∙ ap (λ t. stem parent ++ (codes "__subcmd__" ++ t)) (sym (append-nil node.name));
}

starts_below : (parent : List ℕ) (node : Node) (function : Function) (name : List ℕ) →
    full_name node ≡ joined_name parent node.name → AreNameBytes node.name →
    Starts (full_name node) name function → Starts parent node.name function
starts_below parent node function name e h s = record {
  tail = codes "__subcmd__" ++ (name ++ s.tail);
  is_tail = sub_tail (name ++ s.tail);
  is = s.is
      ∙ ap (λ t. t ++ (codes "__subcmd__" ++ (name ++ s.tail))) (ap stem e ∙ stem-joined parent node.name h)
      ∙ append_assoc (stem parent) (codes "__subcmd__" ++ node.name) (codes "__subcmd__" ++ (name ++ s.tail))
      ∙ ap (λ t. stem parent ++ t)
      (append_assoc (codes "__subcmd__") node.name (codes "__subcmd__" ++ (name ++ s.tail)));
}

among_later : (parent : List ℕ) (node : Node) (below rest : Forest) (functions : List Function) →
    AllByRecursion (StartsAmong parent rest) functions →
    AllByRecursion (StartsAmong parent (more node below rest)) functions
among_later parent node below rest functions h =
    AllByRecursion-weaker (StartsAmong parent rest) (StartsAmong parent (more node below rest))
    (λ function s. record { child = s.child; sibling = inr s.sibling; plain = s.plain; starts = s.starts })
    functions h

starts_among : (parent : List ℕ) (forest : Forest) → IsNamed parent forest →
    IsTrue (is_plain_forest forest) → AllByRecursion (StartsAmong parent forest) (functions_below forest)
starts_among parent none named h = tt
starts_among parent (more node below rest) named h =
    let parts = plain_more node below rest h in
    let name = (plain_node node parts.first.node).names.0 in
    let tree : Tree = record { node = node; children = below } in (
      record {
        child = tree;
        sibling = inl refl;
        plain = name;
        starts = starts_own parent node below named.0 (plain_name_bytes node.name name);
      },
      AllByRecursion-append (StartsAmong parent (more node below rest)) (functions_below below) (functions_below rest)
          (AllByRecursion-weaker (StartsAmong (full_name node) below) (StartsAmong parent (more node below rest))
          (λ function s. record {
            child = tree;
            sibling = inl refl;
            plain = name;
            starts = starts_below parent node function s.child.node.name named.0 (plain_name_bytes node.name name) s.starts;
          }) (functions_below below) (starts_among (full_name node) below named.1.0 parts.first.children))
          (among_later parent node below rest (functions_below rest) (starts_among parent rest named.1.1 parts.later)),
    )

-- two names that begin the same label are equal
same_start : (parent name other : List ℕ) (f g : Function) → IsPlainName name → IsPlainName other →
    Starts parent name f → Starts parent other g → stem f.name ≡ stem g.name → name ≡ other
same_start parent name other f g h k s t e =
    same_name false name s.tail other t.tail (subst IsTrue (sym (plain_after_start name)) h)
    (subst IsTrue (sym (plain_after_start other)) k) s.is_tail t.is_tail
    (append_cancel_left (codes "__subcmd__") (name ++ s.tail) (other ++ t.tail)
    (append_cancel_left (stem parent) (codes "__subcmd__" ++ (name ++ s.tail))
    (codes "__subcmd__" ++ (other ++ t.tail)) (sym s.is ∙ e ∙ t.is)))

-- a node's own label is shorter than the labels below it
own_differs : (full name : List ℕ) (f : Function) → Starts full name f → stem full ≢ stem f.name
own_differs full name f s e =
    let rest : [] ≡ codes "__subcmd__" ++ (name ++ s.tail) =
    append_cancel_left (stem full) [] (codes "__subcmd__" ++ (name ++ s.tail))
    (append-nil (stem full) ∙ e ∙ s.is) in cc

stems_differ : (parent : List ℕ) (forest : Forest) → IsNamed parent forest →
    IsTrue (is_plain_forest forest) → IsTrue (siblings_differ forest) →
    AllDifferBy (λ function. stem function.name) (functions_below forest)
stems_differ parent none named h differ = tt
stems_differ parent (more node below rest) named h differ =
    let parts = plain_more node below rest h in
    let plain = plain_node node parts.first.node in
    let siblings = first_differs node below rest differ in
    let bytes = plain_name_bytes node.name plain.names.0 in
    let own = starts_own parent node below named.0 bytes in
    let under = starts_among (full_name node) below named.1.0 parts.first.children in
    let later = starts_among parent rest named.1.1 parts.later in
    let apart : (f g : Function) → Starts parent node.name f → StartsAmong parent rest g → stem f.name ≢ stem g.name =
    λ f g s t e. not_shared node rest t.child node.name siblings.apart (inl refl) t.sibling
    (subst (λ name. IsIn (visible_names t.child.node) name)
    (sym (same_start parent node.name t.child.node.name f g plain.names.0 t.plain s t.starts e)) (inl refl)) in (
      AllByRecursion-append (λ other. stem (full_name node) ≢ stem other.name) (functions_below below) (functions_below rest)
          (AllByRecursion-weaker (StartsAmong (full_name node) below) (λ other. stem (full_name node) ≢ stem other.name)
          (λ f s. own_differs (full_name node) s.child.node.name f s.starts) (functions_below below) under)
          (AllByRecursion-weaker (StartsAmong parent rest) (λ other. stem (full_name node) ≢ stem other.name)
          (λ g t. apart (function_of node below) g own t) (functions_below rest) later),
      AllDifferBy-append (λ function. stem function.name) (functions_below below) (functions_below rest)
          (stems_differ (full_name node) below named.1.0 parts.first.children parts.first.differ)
          (stems_differ parent rest named.1.1 parts.later siblings.later)
          (λ f g p q. apart f g
          (let s = AllByRecursion-IsIn (StartsAmong (full_name node) below) (functions_below below) f under p in
          starts_below parent node f s.child.node.name named.0 bytes s.starts)
          (AllByRecursion-IsIn (StartsAmong parent rest) (functions_below rest) g later q)),
    )

-- the root's own label differs from all labels below it
pub all_stems_differ : (root : Node) (children : Forest) → IsNamed (full_name root) children →
    IsTrue (is_plain_forest children) → IsTrue (siblings_differ children) →
    AllDifferBy (λ function. stem function.name) (function_of root children ∷ functions_below children)
all_stems_differ root children named h differ = (
  AllByRecursion-weaker (StartsAmong (full_name root) children) (λ other. stem (full_name root) ≢ stem other.name)
      (λ f s. own_differs (full_name root) s.child.node.name f s.starts) (functions_below children)
      (starts_among (full_name root) children named h),
  stems_differ (full_name root) children named h differ,
)

-- equal labels have equal stems
pub label_stem : (name other : List ℕ) → function_label name ≡ function_label other → stem name ≡ stem other
label_stem name other e = append_cancel_right (stem name) (stem other) (codes "_commands") e
