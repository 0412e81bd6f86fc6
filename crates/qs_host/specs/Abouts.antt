-- What a program may be asked to tell of itself.
use Rattle.std.specs.Prelude.{◌≡◌, List, [], ◌∷◌, codes, String, string_bytes}
use Rattle.std.specs.Global.{Global}
use Rattle.qs_host.specs.declared.command.About.{About}
use Rattle.qs_host.specs.declared.command.About.TheVariants.{Help, Version}

-- `--help`, and `--version`, as the only word
abbrev pub AsksAbout : List (String Global) → About → Type 0
AsksAbout (word ∷ []) Help = string_bytes word ≡ codes "--help"
AsksAbout (word ∷ []) Version = string_bytes word ≡ codes "--version"
AsksAbout other about = ⊥
