-- How many bytes a word, a place and a definition have. Assumes nothing.
use Rattle.std.specs.Prelude.{ℕ, ◌≡◌, length, refl}
use Rattle.octets.specs.Octets.{bytes_of}
use Rattle.machine.specs.declared.Place.{Place}
use Rattle.machine.specs.declared.Definition.{Definition}
use Rattle.layout.specs.Layout.{bytes_of_place, bytes_of_definition}

pub length_word : (n : ℕ) → length (bytes_of 8 n) ≡ 8
unfolding bytes_of
length_word n = refl

pub length_place : (p : Place) → length (bytes_of_place p) ≡ 5
unfolding bytes_of_place bytes_of
length_place p = refl

pub length_definition : (x : Definition) → length (bytes_of_definition x) ≡ 4
unfolding bytes_of_definition bytes_of
length_definition x = refl
