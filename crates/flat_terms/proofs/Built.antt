-- Trees made one after another.
use Rattle.std.proofs.Common.{◌≡◌, ◌⊎◌, inl, inr, ℕ, zero, suc, ◌+◌, ◌<◌, ◌≤◌, List, [], ◌∷◌, ◌++◌, length, get_or, slice_get, Some, None, refl, ap, sym, subst, ◌∙◌, arith, length-append, zero-add}
use Rattle.std.proofs.lemmas.Option.{slice_get_within, get_or_from_slice_get, slice_get-get_or, slice_get_cases}
use Rattle.std.proofs.Math.Seq.{get_or-append_seam}
use Rattle.flat_terms.specs.Trees.{trees, AllFit, Distinct, Fresh, Interned}
use Rattle.flat_terms.proofs.Spots.{Extends, extends_itself, extends_push, extends_further}

module _ {N T : Type 0} (d : T) (tree : List T → N → T) (Fits : List T → N → Type 0) where
  pub extends_trees : (done : List T) (ns : List N) → Extends d done (trees tree done ns)
  extends_trees done [] = extends_itself d done
  extends_trees done (n ∷ ns) = extends_further d done (done ++ tree done n ∷ []) (trees tree (done ++ tree done n ∷ []) ns) (extends_push d done (tree done n)) (extends_trees (done ++ tree done n ∷ []) ns)

  pub trees-push : (done : List T) (ns : List N) (n : N) → trees tree done (ns ++ n ∷ []) ≡ trees tree done ns ++ tree (trees tree done ns) n ∷ []
  trees-push done [] n = refl
  trees-push done (m ∷ ns) n = trees-push (done ++ tree done m ∷ []) ns n

  pub fit-push : (done : List T) (ns : List N) (n : N) → AllFit tree Fits done ns → Fits (trees tree done ns) n → AllFit tree Fits done (ns ++ n ∷ [])
  fit-push done [] n a f = (f, tt)
  fit-push done (m ∷ ns) n a f = (a.0, fit-push (done ++ tree done m ∷ []) ns n a.1 f)

  pub length-trees : (done : List T) (ns : List N) → length (trees tree done ns) ≡ length done + length ns
  length-trees done [] = omega arith
  length-trees done (n ∷ ns) = omega (arith, length-trees (done ++ tree done n ∷ []) ns, length-append done (tree done n ∷ []))

  -- a node fits the trees before its own
  pub node_before : (done : List T) (ns : List N) → AllFit tree Fits done ns → (k : ℕ) (n : N) → slice_get ns k ≡ Some n → (xs : List T) × (length xs ≡ length done + k) × Fits xs n
  node_before done [] a k n e = let within : k < 0 = slice_get_within [] k n e in absurd (omega arith)
  node_before done (m ∷ ns) a zero n e =
      let same : m ≡ n = cc in
      (done, omega arith, subst (λ (w : N). Fits done w) same a.0)
  node_before done (m ∷ ns) a (suc k) n e =
      let next : List T = done ++ tree done m ∷ [] in
      let rest = node_before next ns a.1 k n e in
      let shift : length next + k ≡ length done + suc k = omega (arith, length-append done (tree done m ∷ [])) in
      (rest.0, rest.1 ∙ shift, rest.2)

  -- what a node that fits and its tree are over more trees
  module _ (stable : (xs ys : List T) (n : N) → Fits xs n → Extends d xs ys → (tree ys n ≡ tree xs n) × Fits ys n) where
    pub node_at : (done : List T) (ns : List N) → AllFit tree Fits done ns → (k : ℕ) (n : N) → slice_get ns k ≡ Some n
        → Fits (trees tree done ns) n × (get_or (trees tree done ns) (length done + k) d ≡ tree (trees tree done ns) n)
    node_at done [] a k n e = let within : k < 0 = slice_get_within [] k n e in absurd (omega arith)
    node_at done (m ∷ ns) a zero n e = subst (λ (w : N). Fits all w × (get_or all (length done + 0) d ≡ tree all w)) same (later.1, place)
      where
        next : List T
        next = done ++ tree done m ∷ []

        all : List T
        all = trees tree next ns

        same : m ≡ n
        same = cc

        later : (tree all m ≡ tree done m) × Fits all m
        later = stable done all m a.0 (extends_further d done next all (extends_push d done (tree done m)) (extends_trees next ns))

        start : length done + 0 ≡ length done
        start = omega arith

        within : length done < length next
        within = omega (arith, length-append done (tree done m ∷ []))

        place : get_or all (length done + 0) d ≡ tree all m
        place = ap (λ i. get_or all i d) start ∙ (extends_trees next ns).same (length done) within ∙ get_or-append_seam done (tree done m) [] d ∙ sym later.0
    node_at done (m ∷ ns) a (suc k) n e =
        let next : List T = done ++ tree done m ∷ [] in
        let rest = node_at next ns a.1 k n e in
        let shift : length done + suc k ≡ length next + k = omega (arith, length-append done (tree done m ∷ [])) in
        (rest.0, ap (λ i. get_or (trees tree next ns) i d) shift ∙ rest.1)

    -- where a node has one tree alone, a new node's tree is new
    module _ (one : (xs : List T) (m n : N) → Distinct d xs → Fits xs m → Fits xs n → tree xs m ≡ tree xs n → m ≡ n) where
      fresh_tree : (ns : List N) → AllFit tree Fits [] ns → Distinct d (trees tree [] ns) → (n : N) → Fits (trees tree [] ns) n → Fresh ns n → Fresh (trees tree [] ns) (tree (trees tree [] ns) n)
      fresh_tree ns a distinct n fits fresh i e = by (slice_get_cases ns i).1
        where
          all : List T
          all = trees tree [] ns

          within : i < length ns
          within = omega (arith, length-trees [] ns, slice_get_within all i (tree all n) e)

          by : ((x : N) × (i < length ns) × (slice_get ns i ≡ Some x) × (get_or ns i x ≡ x)) ⊎ ((length ns ≤ i) × (slice_get ns i ≡ None)) → ⊥
          by (inl p) =
              let found = node_at [] ns a i p.0 p.2 in
              let same : tree all p.0 ≡ tree all n = sym found.1 ∙ ap (λ k. get_or all k d) (zero-add i) ∙ get_or_from_slice_get all i (tree all n) d e in
              fresh i (p.2 ∙ ap Some (one all p.0 n distinct found.0 fits same))
          by (inr p) = let past : length ns ≤ i = p.0 in let inside : i < length ns = within in absurd (omega arith)

      -- a node that is put among the nodes puts its tree among the trees
      pub interned_trees : (old new : List N) (i : ℕ) (n : N) → AllFit tree Fits [] old → Distinct d (trees tree [] old) → Fits (trees tree [] old) n → Interned old new i n
          → AllFit tree Fits [] new × Interned (trees tree [] old) (trees tree [] new) i (tree (trees tree [] old) n)
      interned_trees old new i n a distinct fits put = (fit, record { at = place; how = how })
        where
          before : List T
          before = trees tree [] old

          after : List T
          after = trees tree [] new

          fit : AllFit tree Fits [] new
          fit = by put.how
            where
              by : (new ≡ old) ⊎ ((new ≡ old ++ n ∷ []) × Fresh old n) → AllFit tree Fits [] new
              by (inl e) = subst (λ (l : List N). AllFit tree Fits [] l) (sym e) a
              by (inr e) = subst (λ (l : List N). AllFit tree Fits [] l) (sym e.0) (fit-push [] old n a fits)

          how : (after ≡ before) ⊎ ((after ≡ before ++ tree before n ∷ []) × Fresh before (tree before n))
          how = by put.how
            where
              by : (new ≡ old) ⊎ ((new ≡ old ++ n ∷ []) × Fresh old n) → (after ≡ before) ⊎ ((after ≡ before ++ tree before n ∷ []) × Fresh before (tree before n))
              by (inl e) = inl (ap (trees tree []) e)
              by (inr e) = inr (ap (trees tree []) e.0 ∙ trees-push [] old n, fresh_tree old a distinct n fits e.1)

          more : Extends d before after
          more = by how
            where
              by : (after ≡ before) ⊎ ((after ≡ before ++ tree before n ∷ []) × Fresh before (tree before n)) → Extends d before after
              by (inl e) = subst (λ (l : List T). Extends d before l) (sym e) (extends_itself d before)
              by (inr e) = subst (λ (l : List T). Extends d before l) (sym e.0) (extends_push d before (tree before n))

          found : Fits after n × (get_or after (0 + i) d ≡ tree after n)
          found = node_at [] new fit i n put.at

          within : i < length after
          within = omega (arith, length-trees [] new, slice_get_within new i n put.at)

          place : slice_get after i ≡ Some (tree before n)
          place = slice_get-get_or after i d within ∙ ap Some (ap (λ k. get_or after k d) (sym (zero-add i)) ∙ found.1 ∙ (stable before after n fits more).0)

-- nodes that mean the same over other tables
module _ {N T : Type 0} (tree tree' : List T → N → T) (Fits Fits' : List T → N → Type 0) (same : (xs : List T) (n : N) → Fits xs n → (tree' xs n ≡ tree xs n) × Fits' xs n) where
  pub regrown : (done : List T) (ns : List N) → AllFit tree Fits done ns → (trees tree' done ns ≡ trees tree done ns) × AllFit tree' Fits' done ns
  regrown done [] a = (refl, tt)
  regrown done (n ∷ ns) a =
      let one = same done n a.0 in
      let rest = regrown (done ++ tree done n ∷ []) ns a.1 in
      (ap (λ t. trees tree' (done ++ t ∷ []) ns) one.0 ∙ rest.0, (one.1, subst (λ (t : T). AllFit tree' Fits' (done ++ t ∷ []) ns) (sym one.0) rest.1))
