-- `deliver` splits the free block that the lowest run starts. Assumes nothing.
use Rattle.std.proofs.Common.{◌-◌, ◌/◌, get_or, ◌∙◌, arith}
use Rattle.block.specs.SetUp.{top}
use Rattle.block.specs.Map.{delivered_map}
use Rattle.block.proofs.Size.{top_le}
use Rattle.block.proofs.Map.{keeps_words}
use Rattle.buddy.proofs.Halves.{part_length}
use Rattle.buddy.proofs.Address.{delivers}
use Rattle.buddy.proofs.Delivered.{Ready}
use Rattle.buddy.proofs.section.deliver.Goals as goal

pub bounds-map-start : goal.bounds-map-start
bounds-map-start c =
    omega (arith, keeps_words c.args.setup c.args.map.now c.requires.0 c.requires.1)

pub size_of-requires : goal.size_of-requires
size_of-requires c =
    let block : let a = c.args in let start = a.address - a.setup.s1 in
    Ready a.j (top a.setup.d) start a.map.now (delivered_map a.j a.address a.setup a.map.now) (get_or a.map.now start 0 / 2) =
    delivers c.args.setup c.args.map.now c.requires.0 c.requires.1 c.args.j c.args.address c.requires.2 c.requires.4 c.requires.5 in
    omega (arith, block.small, top_le c.args.setup.d)

pub overflow_add-end : goal.overflow_add-end
overflow_add-end c =
    let block : let a = c.args in let start = a.address - a.setup.s1 in
    Ready a.j (top a.setup.d) start a.map.now (delivered_map a.j a.address a.setup a.map.now) (get_or a.map.now start 0 / 2) =
    delivers c.args.setup c.args.map.now c.requires.0 c.requires.1 c.args.j c.args.address c.requires.2 c.requires.4 c.requires.5 in
    record { fits = omega (arith, c.size_of.ensures, block.fits) }

pub slice_bounds-split-end : goal.slice_bounds-split-end
slice_bounds-split-end c =
    let block : let a = c.args in let start = a.address - a.setup.s1 in
    Ready a.j (top a.setup.d) start a.map.now (delivered_map a.j a.address a.setup a.map.now) (get_or a.map.now start 0 / 2) =
    delivers c.args.setup c.args.map.now c.requires.0 c.requires.1 c.args.j c.args.address c.requires.2 c.requires.4 c.requires.5 in
    omega (arith, c.size_of.ensures, block.fits)

pub split-requires : goal.split-requires
split-requires c =
    let block : let a = c.args in let start = a.address - a.setup.s1 in
    Ready a.j (top a.setup.d) start a.map.now (delivered_map a.j a.address a.setup a.map.now) (get_or a.map.now start 0 / 2) =
    delivers c.args.setup c.args.map.now c.requires.0 c.requires.1 c.args.j c.args.address c.requires.2 c.requires.4 c.requires.5 in
    let n = c.size_of in
    let b = block in (
      b.wanted,
      omega (arith, b.small, top_le c.args.setup.d),
      part_length (c.args.address - c.args.setup.s1) n.result c.args.map.now (omega (arith, n.ensures, b.fits)) ∙ n.ensures,
    )

pub returns : goal.returns
returns c =
    let block : let a = c.args in let start = a.address - a.setup.s1 in
    Ready a.j (top a.setup.d) start a.map.now (delivered_map a.j a.address a.setup a.map.now) (get_or a.map.now start 0 / 2) =
    delivers c.args.setup c.args.map.now c.requires.0 c.requires.1 c.args.j c.args.address c.requires.2 c.requires.4 c.requires.5 in
    let split = c.split in
    block.puts c.size_of.result split.new.tags c.size_of.ensures split.ensures
