-- Lists of initialisers as the parts of one, and back.
use Rattle.std.specs.Prelude.{List, [], ◌∷◌, ◌++◌}
use Rattle.ir_syntax.specs.declared.init.TypedInit.{TypedInit}
use Rattle.ir_syntax.specs.Inits.{InitTexts, end, more}

-- the initialisers of a list as parts
abbrev pub inits_from : List TypedInit → InitTexts
inits_from [] = end
inits_from (part ∷ parts) = more part.ty part.init (inits_from parts)

-- parts as a list of initialisers
abbrev pub parts_of : InitTexts → List TypedInit
parts_of end = []
parts_of (more ty init rest) = record { ty = ty; init = init } ∷ parts_of rest

-- parts as a list of initialisers, the last part in front
abbrev pub parts_before : InitTexts → List TypedInit
parts_before end = []
parts_before (more ty init rest) = parts_before rest ++ record { ty = ty; init = init } ∷ []
