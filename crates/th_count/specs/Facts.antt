-- Written by `python3 tools/library.py write` from the scripts of tools/library/.
-- The facts of this library, in the order of proving.
use Rattle.std.specs.Prelude.{List, [], ◌∷◌, ◌++◌, codes}
use Rattle.hol_terms.specs.Text.{Text}

-- what the numbers enumerate is countable
abbrev pub countable_enumerated : Text
countable_enumerated = codes "!x0:'a -> bool. !x1:num -> 'a. (!x2:'a. x0 x2 ==> (?x3:num. x2 = x1 x3)) ==> countable{'a} x0"

-- there is a function that enumerates each countable set by numbers
abbrev pub countable_enumeration : Text
countable_enumeration = codes "?x0:('a -> bool) -> num -> 'a. !x1:'a -> bool. countable{'a} x1 ==> (!x2:'a. x1 x2 ==> (?x3:num. x2 = x0 x1 x3))"

-- a subset of a countable set is countable
abbrev pub countable_subset : Text
countable_subset = codes "!x0:'a -> bool. !x1:'a -> bool. countable{'a} x1 ==> ((!x2:'a. x0 x2 ==> x1 x2) ==> countable{'a} x0)"

-- each set of elements of a countable type is countable
abbrev pub countable_on_type : Text
countable_on_type = codes "!x0:'a -> bool. countable{'a} (\\x1:'a. T) ==> countable{'a} x0"

-- the numbers are countable
abbrev pub countable_num : Text
countable_num = codes "countable{num} (\\x0:num. T)"

-- the empty set is countable
abbrev pub countable_empty : Text
countable_empty = codes "countable{'a} (\\x0:'a. F)"

-- a set of one element is countable
abbrev pub countable_singleton : Text
countable_singleton = codes "!x0:'a. countable{'a} (\\x1:'a. x1 = x0)"

-- unit is countable
abbrev pub countable_unit : Text
countable_unit = codes "countable{unit} (\\x0:unit. T)"

-- the truth values are countable
abbrev pub countable_bool : Text
countable_bool = codes "countable{bool} (\\x0:bool. T)"

-- what the pairs of numbers enumerate is countable
abbrev pub countable_enumerated_twice : Text
countable_enumerated_twice = codes "!x0:'a -> bool. !x1:num -> num -> 'a. (!x2:'a. x0 x2 ==> (?x3:num. ?x4:num. x2 = x1 x3 x4)) ==> countable{'a} x0"

-- the union of countably many countable sets is countable
abbrev pub countable_union : Text
countable_union = codes "!x0:'a -> bool. !x1:'a -> 'b -> bool. countable{'a} x0 ==> ((!x2:'a. x0 x2 ==> countable{'b} (x1 x2)) ==> countable{'b} (\\x2:'b. ?x3:'a. x0 x3 /\\ x1 x3 x2))"

-- the union of two countable sets is countable
abbrev pub countable_union_of_two : Text
countable_union_of_two = codes "!x0:'a -> bool. !x1:'a -> bool. countable{'a} x0 ==> (countable{'a} x1 ==> countable{'a} (\\x2:'a. x0 x2 \\/ x1 x2))"

-- the image of a countable set is countable
abbrev pub countable_image : Text
countable_image = codes "!x0:'a -> bool. !x1:'a -> 'b. countable{'a} x0 ==> countable{'b} (\\x2:'b. ?x3:'a. x0 x3 /\\ (x2 = x1 x3))"

-- the values of a function on a countable type are countable
abbrev pub countable_range : Text
countable_range = codes "!x0:'a -> 'b. countable{'a} (\\x1:'a. T) ==> countable{'b} (\\x1:'b. ?x2:'a. x1 = x0 x2)"

-- what is mapped injectively into a countable set is countable
abbrev pub countable_injection : Text
countable_injection = codes "!x0:'a -> bool. !x1:'b -> bool. !x2:'a -> 'b. countable{'b} x1 ==> ((!x3:'a. x0 x3 ==> x1 (x2 x3)) ==> ((!x3:'a. !x4:'a. x0 x3 ==> (x0 x4 ==> ((x2 x3 = x2 x4) ==> (x3 = x4)))) ==> countable{'a} x0))"

-- the pairs from two countable sets are countable
abbrev pub countable_product : Text
countable_product = codes "!x0:'a -> bool. !x1:'b -> bool. countable{'a} x0 ==> (countable{'b} x1 ==> countable{('a,'b) prod} (\\x2:('a,'b) prod. x0 (fst{'a,'b} x2) /\\ x1 (snd{'a,'b} x2)))"

-- the product of countable types is countable
abbrev pub countable_prod : Text
countable_prod = codes "countable{'a} (\\x0:'a. T) ==> (countable{'b} (\\x0:'b. T) ==> countable{('a,'b) prod} (\\x0:('a,'b) prod. T))"

-- the sum of countable types is countable
abbrev pub countable_sum : Text
countable_sum = codes "countable{'a} (\\x0:'a. T) ==> (countable{'b} (\\x0:'b. T) ==> countable{('a,'b) sum} (\\x0:('a,'b) sum. T))"

-- a countable set is the one that its representation stands for
abbrev pub cset_abs_rep : Text
cset_abs_rep = codes "!x0:'a cset. cset.abs{'a} (cset.rep{'a} x0) = x0"

-- a predicate represents a countable set where it is countable
abbrev pub cset_rep_abs : Text
cset_rep_abs = codes "!x0:'a -> bool. countable{'a} x0 = (cset.rep{'a} (cset.abs{'a} x0) = x0)"

-- the members of a countable set are countable
abbrev pub cset_countable : Text
cset_countable = codes "!x0:'a cset. countable{'a} (cset.rep{'a} x0)"

-- countable sets with the same members are equal
abbrev pub cset_extensionality : Text
cset_extensionality = codes "!x0:'a cset. !x1:'a cset. (!x2:'a. cset.rep{'a} x0 x2 = cset.rep{'a} x1 x2) ==> (x0 = x1)"

-- the set of a countable predicate has the members of the predicate
abbrev pub cset_member : Text
cset_member = codes "!x0:'a -> bool. countable{'a} x0 ==> (!x1:'a. cset.rep{'a} (cset.abs{'a} x0) x1 = x0 x1)"

-- the members of an image
abbrev pub cset_map_member : Text
cset_map_member = codes "!x0:'a -> 'b. !x1:'a cset. !x2:'b. cset.rep{'b} (cset.map{'a,'b} x0 x1) x2 = (?x3:'a. cset.rep{'a} x1 x3 /\\ (x2 = x0 x3))"

-- the image is the countable set of the values
abbrev pub cset_map_is : Text
cset_map_is = codes "!x0:'a -> 'b. !x1:'a cset. !x2:'b cset. (!x3:'b. (?x4:'a. cset.rep{'a} x1 x4 /\\ (x3 = x0 x4)) = cset.rep{'b} x2 x3) ==> (cset.map{'a,'b} x0 x1 = x2)"

-- there is one of a kind in an image where there is one in the set whose value is of the kind
abbrev pub cset_map_exists : Text
cset_map_exists = codes "!x0:'a -> 'b. !x1:'a cset. !x2:'b -> bool. (?x3:'b. cset.rep{'b} (cset.map{'a,'b} x0 x1) x3 /\\ x2 x3) = (?x3:'a. cset.rep{'a} x1 x3 /\\ x2 (x0 x3))"

-- Functor law map_id of cset
abbrev pub cset_map_id : Text
cset_map_id = codes "!x0:'a cset. cset.map{'a,'a} id{'a} x0 = x0"

-- Functor law map_comp of cset
abbrev pub cset_map_comp : Text
cset_map_comp = codes "!x0:'a -> 'b. !x1:'b -> 'c. !x2:'a cset. cset.map{'b,'c} x1 (cset.map{'a,'b} x0 x2) = cset.map{'a,'c} (\\x3:'a. x1 (x0 x3)) x2"

-- the set function is the representation
abbrev pub cset_set_is_rep : Text
cset_set_is_rep = codes "cset.set1{'a} = cset.rep{'a}"

-- the set function gives the members
abbrev pub cset_set_member : Text
cset_set_member = codes "!x0:'a cset. !x1:'a. cset.set1{'a} x0 x1 = cset.rep{'a} x0 x1"

-- Functor law set1_map of cset
abbrev pub cset_set_map : Text
cset_set_map = codes "!x0:'a -> 'b. !x1:'a cset. !x2:'b. cset.set1{'b} (cset.map{'a,'b} x0 x1) x2 = (?x3:'a. cset.set1{'a} x1 x3 /\\ (x2 = x0 x3))"

-- Functor law set1_count of cset
abbrev pub cset_set_count : Text
cset_set_count = codes "!x0:'a cset. countable{'a} (cset.set1{'a} x0)"

-- Functor law map_cong of cset
abbrev pub cset_map_cong : Text
cset_map_cong = codes "!x0:'a -> 'b. !x1:'a -> 'b. !x2:'a cset. (!x3:'a. cset.set1{'a} x2 x3 ==> (x0 x3 = x1 x3)) ==> (cset.map{'a,'b} x0 x2 = cset.map{'a,'b} x1 x2)"

-- where two functions are related on a set, each member of the one image has a related member of the other
abbrev pub cset_maps_relate_each : Text
cset_maps_relate_each = codes "!x0:'b -> 'c -> bool. !x1:'a -> 'b. !x2:'a -> 'c. !x3:'a cset. (!x4:'a. cset.rep{'a} x3 x4 ==> x0 (x1 x4) (x2 x4)) ==> (!x4:'b. cset.rep{'b} (cset.map{'a,'b} x1 x3) x4 ==> (?x5:'c. cset.rep{'c} (cset.map{'a,'c} x2 x3) x5 /\\ x0 x4 x5))"

-- functions that are related on a set give related images
abbrev pub cset_maps_related : Text
cset_maps_related = codes "!x0:'b -> 'c -> bool. !x1:'a -> 'b. !x2:'a -> 'c. !x3:'a cset. (!x4:'a. cset.rep{'a} x3 x4 ==> x0 (x1 x4) (x2 x4)) ==> cset.rel{'b,'c} x0 (cset.map{'a,'b} x1 x3) (cset.map{'a,'c} x2 x3)"

-- the related pairs of two countable sets are a countable set
abbrev pub cset_related_pairs : Text
cset_related_pairs = codes "!x0:'a -> 'b -> bool. !x1:'a cset. !x2:'b cset. ?x3:('a,'b) prod cset. cset.rep{('a,'b) prod} x3 = (\\x4:('a,'b) prod. (cset.rep{'a} x1 (fst{'a,'b} x4) /\\ cset.rep{'b} x2 (snd{'a,'b} x4)) /\\ x0 (fst{'a,'b} x4) (snd{'a,'b} x4))"

-- the first components of the related pairs of related sets are the members of the first set
abbrev pub cset_rel_firsts : Text
cset_rel_firsts = codes "!x0:'a -> 'b -> bool. !x1:'a cset. !x2:'b cset. cset.rel{'a,'b} x0 x1 x2 ==> (!x3:'a. (?x4:('a,'b) prod. ((cset.rep{'a} x1 (fst{'a,'b} x4) /\\ cset.rep{'b} x2 (snd{'a,'b} x4)) /\\ x0 (fst{'a,'b} x4) (snd{'a,'b} x4)) /\\ (x3 = fst{'a,'b} x4)) = cset.rep{'a} x1 x3)"

-- the second components of the related pairs of related sets are the members of the second set
abbrev pub cset_rel_seconds : Text
cset_rel_seconds = codes "!x0:'a -> 'b -> bool. !x1:'a cset. !x2:'b cset. cset.rel{'a,'b} x0 x1 x2 ==> (!x3:'b. (?x4:('a,'b) prod. ((cset.rep{'a} x1 (fst{'a,'b} x4) /\\ cset.rep{'b} x2 (snd{'a,'b} x4)) /\\ x0 (fst{'a,'b} x4) (snd{'a,'b} x4)) /\\ (x3 = snd{'a,'b} x4)) = cset.rep{'b} x2 x3)"

-- related sets are the images of the set of their related pairs
abbrev pub cset_rel_of_pairs : Text
cset_rel_of_pairs = codes "!x0:'a -> 'b -> bool. !x1:'a cset. !x2:'b cset. !x3:('a,'b) prod cset. (cset.rep{('a,'b) prod} x3 = (\\x4:('a,'b) prod. (cset.rep{'a} x1 (fst{'a,'b} x4) /\\ cset.rep{'b} x2 (snd{'a,'b} x4)) /\\ x0 (fst{'a,'b} x4) (snd{'a,'b} x4))) ==> (cset.rel{'a,'b} x0 x1 x2 ==> ((!x4:('a,'b) prod. cset.rep{('a,'b) prod} x3 x4 ==> x0 (fst{'a,'b} x4) (snd{'a,'b} x4)) /\\ ((cset.map{('a,'b) prod,'a} fst{'a,'b} x3 = x1) /\\ (cset.map{('a,'b) prod,'b} snd{'a,'b} x3 = x2))))"

-- Functor law rel_in of cset
abbrev pub cset_rel_in : Text
cset_rel_in = codes "!x0:'a -> 'b -> bool. !x1:'a cset. !x2:'b cset. cset.rel{'a,'b} x0 x1 x2 = (?x3:('a,'b) prod cset. (!x4:('a,'b) prod. cset.set1{('a,'b) prod} x3 x4 ==> x0 (fst{'a,'b} x4) (snd{'a,'b} x4)) /\\ ((cset.map{('a,'b) prod,'a} fst{'a,'b} x3 = x1) /\\ (cset.map{('a,'b) prod,'b} snd{'a,'b} x3 = x2)))"

-- where a composition relates the values of two functions on a set, there is a set between the images
abbrev pub cset_rel_between : Text
cset_rel_between = codes "!x0:'b -> 'c -> bool. !x1:'c -> 'd -> bool. !x2:'a -> 'b. !x3:'a -> 'd. !x4:'a cset. (!x5:'a. cset.rep{'a} x4 x5 ==> (?x6:'c. x0 (x2 x5) x6 /\\ x1 x6 (x3 x5))) ==> (?x5:'c cset. cset.rel{'b,'c} x0 (cset.map{'a,'b} x2 x4) x5 /\\ cset.rel{'c,'d} x1 x5 (cset.map{'a,'d} x3 x4))"

-- where a composition relates two sets, there is a set between them
abbrev pub cset_rel_split : Text
cset_rel_split = codes "!x0:'a -> 'b -> bool. !x1:'b -> 'c -> bool. !x2:'a cset. !x3:'c cset. cset.rel{'a,'c} (\\x4:'a. \\x5:'c. ?x6:'b. x0 x4 x6 /\\ x1 x6 x5) x2 x3 ==> (?x4:'b cset. cset.rel{'a,'b} x0 x2 x4 /\\ cset.rel{'b,'c} x1 x4 x3)"

-- of three sets in a row, each member of the first has one of the last that the composition relates it to
abbrev pub cset_rel_forwards : Text
cset_rel_forwards = codes "!x0:'a -> 'b -> bool. !x1:'b -> 'c -> bool. !x2:'a cset. !x3:'b cset. !x4:'c cset. (cset.rel{'a,'b} x0 x2 x3 /\\ cset.rel{'b,'c} x1 x3 x4) ==> (!x5:'a. cset.rep{'a} x2 x5 ==> (?x6:'c. cset.rep{'c} x4 x6 /\\ (?x7:'b. x0 x5 x7 /\\ x1 x7 x6)))"

-- of three sets in a row, each member of the last has one of the first that the composition relates to it
abbrev pub cset_rel_backwards : Text
cset_rel_backwards = codes "!x0:'a -> 'b -> bool. !x1:'b -> 'c -> bool. !x2:'a cset. !x3:'b cset. !x4:'c cset. (cset.rel{'a,'b} x0 x2 x3 /\\ cset.rel{'b,'c} x1 x3 x4) ==> (!x5:'c. cset.rep{'c} x4 x5 ==> (?x6:'a. cset.rep{'a} x2 x6 /\\ (?x7:'b. x0 x6 x7 /\\ x1 x7 x5)))"

-- Functor law rel_comp of cset
abbrev pub cset_rel_comp : Text
cset_rel_comp = codes "!x0:'a -> 'b -> bool. !x1:'b -> 'c -> bool. !x2:'a cset. !x3:'c cset. cset.rel{'a,'c} (\\x4:'a. \\x5:'c. ?x6:'b. x0 x4 x6 /\\ x1 x6 x5) x2 x3 = (?x4:'b cset. cset.rel{'a,'b} x0 x2 x4 /\\ cset.rel{'b,'c} x1 x4 x3)"

-- on countable sets
abbrev pub countable_facts : List Text
countable_facts =
    countable_enumerated
    ∷ countable_enumeration
    ∷ countable_subset
    ∷ countable_on_type
    ∷ countable_num
    ∷ countable_empty
    ∷ countable_singleton
    ∷ countable_unit
    ∷ countable_bool
    ∷ countable_enumerated_twice
    ∷ []

-- on unions, images, products and sums of countable sets
abbrev pub union_facts : List Text
union_facts =
    countable_union
    ∷ countable_union_of_two
    ∷ countable_image
    ∷ countable_range
    ∷ countable_injection
    ∷ countable_product
    ∷ countable_prod
    ∷ countable_sum
    ∷ []

-- on the type of countable sets
abbrev pub cset_facts : List Text
cset_facts =
    cset_abs_rep
    ∷ cset_rep_abs
    ∷ cset_countable
    ∷ cset_extensionality
    ∷ cset_member
    ∷ cset_map_member
    ∷ cset_map_is
    ∷ cset_map_exists
    ∷ cset_map_id
    ∷ cset_map_comp
    ∷ cset_set_is_rep
    ∷ cset_set_member
    ∷ cset_set_map
    ∷ cset_set_count
    ∷ cset_map_cong
    ∷ []

-- on the relator of countable sets
abbrev pub relator_facts : List Text
relator_facts =
    cset_maps_relate_each
    ∷ cset_maps_related
    ∷ cset_related_pairs
    ∷ cset_rel_firsts
    ∷ cset_rel_seconds
    ∷ []

-- on the related pairs of countable sets
abbrev pub pair_facts : List Text
pair_facts =
    cset_rel_of_pairs
    ∷ cset_rel_in
    ∷ []

-- on compositions of relations of countable sets
abbrev pub composition_facts : List Text
composition_facts =
    cset_rel_between
    ∷ cset_rel_split
    ∷ cset_rel_forwards
    ∷ cset_rel_backwards
    ∷ cset_rel_comp
    ∷ []

-- all of them
abbrev pub count_facts : List Text
count_facts = countable_facts ++ union_facts ++ cset_facts ++ relator_facts ++ pair_facts ++ composition_facts
