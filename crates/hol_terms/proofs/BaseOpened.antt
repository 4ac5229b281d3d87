-- The base definitions opened: a proof with the line `unfolding opened_bases base_definitions` computes with them.
use Rattle.std.specs.Prelude.{List}
use Rattle.hol_terms.specs.Definition.{Definition}
use Rattle.hol_terms.specs.Logic.{base_1, base_2, base_3, base_4, base_5, base_6, base_7, base_8, base_9, base_10}
use Rattle.hol_terms.specs.Base.{base_11, base_12, base_13, base_14, base_15, base_16, base_17, base_18, base_19, base_20, base_21, base_22, base_23, base_24, base_25, base_26, base_27, base_28, base_29, base_30, base_31, base_32, base_33, base_34, base_35, base_36, base_37, base_38, base_39, base_40, base_41, base_42, base_43, base_44, base_45, base_46, base_47, base_48, base_49, base_50, base_51, base_52, base_definitions}

unfoldable pub opened_bases : List Definition
unfolding base_1 base_2 base_3 base_4 base_5 base_6 base_7 base_8 base_9 base_10 base_11 base_12 base_13 base_14 base_15 base_16 base_17 base_18 base_19 base_20 base_21 base_22 base_23 base_24 base_25 base_26 base_27 base_28 base_29 base_30 base_31 base_32 base_33 base_34 base_35 base_36 base_37 base_38 base_39 base_40 base_41 base_42 base_43 base_44 base_45 base_46 base_47 base_48 base_49 base_50 base_51 base_52
opened_bases = base_definitions
