-- The equality of names, lists of numbers and nodes decides whether they are the same.
use Rattle.std.proofs.Common.{◌≡◌, ℕ, Bool, true, List, [], ◌∷◌, refl, ap, sym, ◌∙◌, nat_eq, ◌&&◌, eq-eqb, true≢false, String, string_bytes}
use Rattle.std.specs.declared.alloc.Global.{Global}
use Rattle.std.specs.String.{string_eq}
use Rattle.std.specs.Cmp.Lexicographic.{pointwise}
use Rattle.std.proofs.lemmas.Bool.{and_parts, eqb-true}
use Rattle.std.proofs.lemmas.Slice.Eq.{bytes_eq-Decides}
use Rattle.flat_terms.specs.declared.nodes.TypeId.{TypeId}
use Rattle.flat_terms.specs.declared.nodes.TypeNode.{TypeNode}
use Rattle.flat_terms.specs.declared.nodes.TypeNode.TheVariants.{Var, App}
use Rattle.flat_terms.specs.declared.nodes.TermNode.{TermNode}
use Rattle.flat_terms.specs.declared.nodes.TermNode.TheVariants.{Index, Free, Const, Comb, Abs}
use Rattle.flat_terms.specs.contracts.nodes.TypeIdPartialEq.TheImpl.{eq-value as type_eq}
use Rattle.flat_terms.specs.contracts.nodes.TypeNodePartialEq.TheImpl.{eq-value as type_node_eq}
use Rattle.flat_terms.specs.contracts.nodes.TermNodePartialEq.TheImpl.{eq-value as term_node_eq}
use Rattle.flat_terms.specs.Trees.{numbers}

both : (a b : Bool) → a ≡ true → b ≡ true → (a && b) ≡ true
both a b p q = ap (λ c. c && b) p ∙ q

itself : (n : ℕ) → nat_eq n n ≡ true
itself n = eq-eqb n n refl

pub same_name : (x y : String Global) → string_eq x y ≡ true → string_bytes x ≡ string_bytes y
same_name x y e = (bytes_eq-Decides (string_bytes x) (string_bytes y)).0 e

pub name_same : (x y : String Global) → string_bytes x ≡ string_bytes y → string_eq x y ≡ true
name_same x y e = (bytes_eq-Decides (string_bytes x) (string_bytes y)).1 e

pub same_numbers : (xs ys : List TypeId) → pointwise type_eq.it xs ys ≡ true → numbers xs ≡ numbers ys
same_numbers [] [] e = refl
same_numbers [] (y ∷ ys) e = absurd (true≢false (sym e))
same_numbers (x ∷ xs) [] e = absurd (true≢false (sym e))
same_numbers (x ∷ xs) (y ∷ ys) e =
    let p = and_parts (nat_eq x.0 y.0) (pointwise type_eq.it xs ys) e in
    let here : x.0 ≡ y.0 = eqb-true x.0 y.0 p.0 in
    let rest = same_numbers xs ys p.1 in
    λ j. here j ∷ rest j

numbers_itself : (xs : List TypeId) → pointwise type_eq.it xs xs ≡ true
numbers_itself [] = refl
numbers_itself (x ∷ xs) = both (nat_eq x.0 x.0) (pointwise type_eq.it xs xs) (itself x.0) (numbers_itself xs)

-- numbers tell the lists
numbers_once : (xs ys : List TypeId) → numbers xs ≡ numbers ys → xs ≡ ys
numbers_once [] [] e = refl
numbers_once [] (y ∷ ys) e = cc
numbers_once (x ∷ xs) [] e = cc
numbers_once (x ∷ xs) (y ∷ ys) e =
    let here : x.0 ≡ y.0 = cc in
    let others : numbers xs ≡ numbers ys = cc in
    let rest = numbers_once xs ys others in
    λ j. record { 0 = here j } ∷ rest j

pub numbers_same : (xs ys : List TypeId) → numbers xs ≡ numbers ys → pointwise type_eq.it xs ys ≡ true
numbers_same xs ys e = ap (pointwise type_eq.it xs) (sym (numbers_once xs ys e)) ∙ numbers_itself xs

pub same_type_node : (x y : TypeNode) → type_node_eq.it x y ≡ true → x ≡ y
same_type_node (Var m) (Var n) e =
    let same : m.0 ≡ n.0 = eqb-true m.0 n.0 e in
    λ j. Var (record { 0 = same j })
same_type_node (Var m) (App n k) e = absurd (true≢false (sym e))
same_type_node (App m l) (Var n) e = absurd (true≢false (sym e))
same_type_node (App m l) (App n k) e =
    let p = and_parts (nat_eq m.0 n.0) (nat_eq l.0 k.0) e in
    let name : m.0 ≡ n.0 = eqb-true m.0 n.0 p.0 in
    let list : l.0 ≡ k.0 = eqb-true l.0 k.0 p.1 in
    λ j. App (record { 0 = name j }) (record { 0 = list j })

type_node_itself : (x : TypeNode) → type_node_eq.it x x ≡ true
type_node_itself (Var m) = itself m.0
type_node_itself (App m l) = both (nat_eq m.0 m.0) (nat_eq l.0 l.0) (itself m.0) (itself l.0)

pub type_node_same : (x y : TypeNode) → x ≡ y → type_node_eq.it x y ≡ true
type_node_same x y e = ap (type_node_eq.it x) (sym e) ∙ type_node_itself x

pub same_term_node : (x y : TermNode) → term_node_eq.it x y ≡ true → x ≡ y
same_term_node (Index i t) (Index j u) e =
    let p = and_parts (nat_eq i j) (nat_eq t.0 u.0) e in
    let same0 : i ≡ j = eqb-true i j p.0 in
    let same1 : t.0 ≡ u.0 = eqb-true t.0 u.0 p.1 in
    λ j. Index (same0 j) (record { 0 = same1 j })
same_term_node (Index i t) (Free n u) e = absurd (true≢false (sym e))
same_term_node (Index i t) (Const n k u) e = absurd (true≢false (sym e))
same_term_node (Index i t) (Comb g y u) e = absurd (true≢false (sym e))
same_term_node (Index i t) (Abs c d u) e = absurd (true≢false (sym e))
same_term_node (Free m t) (Index j u) e = absurd (true≢false (sym e))
same_term_node (Free m t) (Free n u) e =
    let p = and_parts (nat_eq m.0 n.0) (nat_eq t.0 u.0) e in
    let same0 : m.0 ≡ n.0 = eqb-true m.0 n.0 p.0 in
    let same1 : t.0 ≡ u.0 = eqb-true t.0 u.0 p.1 in
    λ j. Free (record { 0 = same0 j }) (record { 0 = same1 j })
same_term_node (Free m t) (Const n k u) e = absurd (true≢false (sym e))
same_term_node (Free m t) (Comb g y u) e = absurd (true≢false (sym e))
same_term_node (Free m t) (Abs c d u) e = absurd (true≢false (sym e))
same_term_node (Const m l t) (Index j u) e = absurd (true≢false (sym e))
same_term_node (Const m l t) (Free n u) e = absurd (true≢false (sym e))
same_term_node (Const m l t) (Const n k u) e =
    let p = and_parts (nat_eq m.0 n.0) (nat_eq l.0 k.0 && nat_eq t.0 u.0) e in
    let q = and_parts (nat_eq l.0 k.0) (nat_eq t.0 u.0) p.1 in
    let same0 : m.0 ≡ n.0 = eqb-true m.0 n.0 p.0 in
    let same1 : l.0 ≡ k.0 = eqb-true l.0 k.0 q.0 in
    let same2 : t.0 ≡ u.0 = eqb-true t.0 u.0 q.1 in
    λ j. Const (record { 0 = same0 j }) (record { 0 = same1 j }) (record { 0 = same2 j })
same_term_node (Const m l t) (Comb g y u) e = absurd (true≢false (sym e))
same_term_node (Const m l t) (Abs c d u) e = absurd (true≢false (sym e))
same_term_node (Comb f x t) (Index j u) e = absurd (true≢false (sym e))
same_term_node (Comb f x t) (Free n u) e = absurd (true≢false (sym e))
same_term_node (Comb f x t) (Const n k u) e = absurd (true≢false (sym e))
same_term_node (Comb f x t) (Comb g y u) e =
    let p = and_parts (nat_eq f.0 g.0) (nat_eq x.0 y.0 && nat_eq t.0 u.0) e in
    let q = and_parts (nat_eq x.0 y.0) (nat_eq t.0 u.0) p.1 in
    let same0 : f.0 ≡ g.0 = eqb-true f.0 g.0 p.0 in
    let same1 : x.0 ≡ y.0 = eqb-true x.0 y.0 q.0 in
    let same2 : t.0 ≡ u.0 = eqb-true t.0 u.0 q.1 in
    λ j. Comb (record { 0 = same0 j }) (record { 0 = same1 j }) (record { 0 = same2 j })
same_term_node (Comb f x t) (Abs c d u) e = absurd (true≢false (sym e))
same_term_node (Abs a b t) (Index j u) e = absurd (true≢false (sym e))
same_term_node (Abs a b t) (Free n u) e = absurd (true≢false (sym e))
same_term_node (Abs a b t) (Const n k u) e = absurd (true≢false (sym e))
same_term_node (Abs a b t) (Comb g y u) e = absurd (true≢false (sym e))
same_term_node (Abs a b t) (Abs c d u) e =
    let p = and_parts (nat_eq a.0 c.0) (nat_eq b.0 d.0 && nat_eq t.0 u.0) e in
    let q = and_parts (nat_eq b.0 d.0) (nat_eq t.0 u.0) p.1 in
    let same0 : a.0 ≡ c.0 = eqb-true a.0 c.0 p.0 in
    let same1 : b.0 ≡ d.0 = eqb-true b.0 d.0 q.0 in
    let same2 : t.0 ≡ u.0 = eqb-true t.0 u.0 q.1 in
    λ j. Abs (record { 0 = same0 j }) (record { 0 = same1 j }) (record { 0 = same2 j })

term_node_itself : (x : TermNode) → term_node_eq.it x x ≡ true
term_node_itself (Index i t) = both (nat_eq i i) (nat_eq t.0 t.0) (itself i) (itself t.0)
term_node_itself (Free m t) = both (nat_eq m.0 m.0) (nat_eq t.0 t.0) (itself m.0) (itself t.0)
term_node_itself (Const m l t) = both (nat_eq m.0 m.0) (nat_eq l.0 l.0 && nat_eq t.0 t.0) (itself m.0) (both (nat_eq l.0 l.0) (nat_eq t.0 t.0) (itself l.0) (itself t.0))
term_node_itself (Comb f x t) = both (nat_eq f.0 f.0) (nat_eq x.0 x.0 && nat_eq t.0 t.0) (itself f.0) (both (nat_eq x.0 x.0) (nat_eq t.0 t.0) (itself x.0) (itself t.0))
term_node_itself (Abs a b t) = both (nat_eq a.0 a.0) (nat_eq b.0 b.0 && nat_eq t.0 t.0) (itself a.0) (both (nat_eq b.0 b.0) (nat_eq t.0 t.0) (itself b.0) (itself t.0))

pub term_node_same : (x y : TermNode) → x ≡ y → term_node_eq.it x y ≡ true
term_node_same x y e = ap (term_node_eq.it x) (sym e) ∙ term_node_itself x
