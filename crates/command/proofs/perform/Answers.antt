-- `perform` meets its contract: each arm is its verb's meaning, on parameters that it can do with, which stay as they are where they are held.
use Rattle.tool.specs.Verbs.{largest32}
use Rattle.tool.proofs.Laws.Held.{held_within, held_usable}
use Rattle.tool.proofs.Laws.Lengths.{script_most, usage_most}
use Rattle.tool.proofs.Laws.Parts.{complained}
use Rattle.command.proofs.perform.Goals as goal

pub returns-in-Build : goal.returns-in-Build
returns-in-Build c =
    let told = c.in-Build.is in
    let u = rw told at c.requires in
    rw (← c.own_in-own.ensures, told) (rw (held_within largest32 _ u.within) at c.build.ensures)

pub returns-in-OnTape : goal.returns-in-OnTape
returns-in-OnTape c =
    let told = c.in-OnTape.is in
    let u = rw told at c.requires in
    rw (← c.own_in-own.ensures, told) (rw (held_usable largest32 u) at c.perform_on_tape.ensures)

pub returns-in-OnNumbers : goal.returns-in-OnNumbers
returns-in-OnNumbers c =
    let told = c.in-OnNumbers.is in
    let u = rw told at c.requires in
    rw (← c.own_in-own.ensures, told) (rw (held_usable _ u) at c.on_numbers.ensures)

pub returns-in-Help : goal.returns-in-Help
returns-in-Help c = rw c.in-Help.is c.help.ensures

pub returns-in-Version : goal.returns-in-Version
returns-in-Version c = rw c.in-Version.is c.version.ensures

pub returns-in-Script : goal.returns-in-Script
returns-in-Script c = rw c.in-Script.is (complained c.put.ensures script_most c.complaint.ensures)

pub returns-in-InScript : goal.returns-in-InScript
returns-in-InScript c = rw c.in-InScript.is (complained c.put_usage.ensures usage_most c.complaint-in-InScript.ensures)
